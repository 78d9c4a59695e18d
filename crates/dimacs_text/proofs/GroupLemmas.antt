-- The lines round a group, and its lines with one line more.
use Rattle.std.proofs.Common.{◌≡◌, ℕ, ◌+◌, Bool, true, false, cond, List, [], ◌∷◌, ◌++◌, length, Option, Some, None, Result, Ok, Err, refl, sym, ap, ◌∙◌, arith}
use Rattle.dimacs_text.specs.declared.command_fault.CommandFault.{CommandFault}
use Rattle.dimacs_text.specs.declared.problem.Kind.{Kind}
use Rattle.dimacs_text.specs.declared.command.Edit.{Edit}
use Rattle.dimacs_lines.specs.Lines.{Line}
use Rattle.dimacs_text.specs.Command.{asked}
use Rattle.dimacs_text.specs.Group.{Gathered, with_edit, gathered_by, gathered, gathered_after, stays_or, edit_in, is_end_asked, and_line}

first_line : (r : Result Edit CommandFault) → gathered_by r (record { edits = []; fault = None }) ≡ stays_or None [] r
first_line (Ok edit) = refl
first_line (Err fault) = refl

stays_with : (edit : Edit) (fault : Option CommandFault) (edits : List Edit) (r : Result Edit CommandFault) → with_edit edit (stays_or fault edits r) ≡ stays_or fault (edit ∷ edits) r
stays_with edit None edits (Ok next) = refl
stays_with edit None edits (Err fault) = refl
stays_with edit (Some fault) edits r = refl

line_by : (r : Result Edit CommandFault) (kind : Kind) (before : ℕ) (later longer : Gathered) (line : Line)
    → longer ≡ stays_or later.fault later.edits (edit_in kind (before + 1 + length later.edits) line)
    → gathered_by r longer ≡ stays_or (gathered_by r later).fault (gathered_by r later).edits (edit_in kind (before + length (gathered_by r later).edits) line)
line_by (Ok edit) kind before later longer line e =
    let place : before + 1 + length later.edits ≡ before + length (edit ∷ later.edits) = omega arith in
    ap (with_edit edit) e ∙ stays_with edit later.fault later.edits _ ∙ ap (λ n. stays_or later.fault (edit ∷ later.edits) (edit_in kind n line)) place
line_by (Err fault) kind before later longer line e = refl

pub gathered-push : (kind : Kind) (before : ℕ) (lines : List Line) (line : Line)
    → gathered kind before (lines ++ line ∷ []) ≡ stays_or (gathered kind before lines).fault (gathered kind before lines).edits (edit_in kind (before + length (gathered kind before lines).edits) line)
unfolding gathered
gathered-push kind before [] line =
    let place : before ≡ before + 0 = omega arith in
    first_line (edit_in kind before line) ∙ ap (λ n. stays_or None [] (edit_in kind n line)) place
gathered-push kind before (first ∷ lines) line =
    line_by (edit_in kind before first) kind before (gathered kind (before + 1) lines) (gathered kind (before + 1) (lines ++ line ∷ [])) line (gathered-push kind (before + 1) lines line)

-- what a group holds after one line more
pub taken : (kind : Kind) (lines : List Line) (line : Line) (old : Gathered) → old ≡ gathered kind 0 lines
    → gathered_after old (asked kind line) ≡ gathered kind 0 (and_line (is_end_asked (asked kind line)) lines line)
taken kind lines line old e = by (is_end_asked (asked kind line))
  where
    by : (ends : Bool) → cond ends old (stays_or old.fault old.edits (edit_in kind (length old.edits) line)) ≡ gathered kind 0 (and_line ends lines line)
    by true = e
    by false =
        let place : length (gathered kind 0 lines).edits ≡ 0 + length (gathered kind 0 lines).edits = omega arith in
        rw e (ap (λ n. stays_or (gathered kind 0 lines).fault (gathered kind 0 lines).edits (edit_in kind n line)) place ∙ sym (gathered-push kind 0 lines line))
