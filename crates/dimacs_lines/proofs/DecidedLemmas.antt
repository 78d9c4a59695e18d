-- Only what decides a text is the fault of each text that goes on from it, under any rule that leaves the length of lines alone.
use Rattle.std.proofs.Common.{◌≡◌, ◌≢◌, ℕ, suc, zero, ◌+◌, ◌<◌, Bool, true, false, cond, List, [], ◌∷◌, ◌++◌, length, replicate, Option, Some, None, Result, Err, refl, sym, ap, ◌∙◌, arith}
use Rattle.std.proofs.lemmas.Bool.{le-leb}
use Rattle.std.proofs.lemmas.List.{append-nil, length-append, length-replicate}
use Rattle.std.proofs.lemmas.List.Elements.{All-replicate, All-cons, All-nil}
use Rattle.dimacs_lines.specs.declared.fault.LineFault.TheVariants as fault
use Rattle.dimacs_lines.specs.declared.fault.TextFault.{TextFault}
use Rattle.dimacs_lines.specs.declared.fault.TextFault.TheVariants as text_fault
use Rattle.dimacs_lines.specs.Fault.{number_of}
use Rattle.dimacs_lines.specs.Lines.{Line, Parts, parts_of, lines_of, last_line, is_too_long, IsBytes}
use Rattle.dimacs_lines.specs.Cut.{kept}
use Rattle.dimacs_lines.specs.Stream.{Rule, decided, first_fault, or_else, at_line, fault_or, read_by, cut_fault}
use Rattle.dimacs_lines.proofs.LineLemmas.{joined, parts_of-append}
use Rattle.dimacs_lines.proofs.GoesOnLemmas.{lines_go_on}
use Rattle.dimacs_lines.proofs.PartLemmas.{first_parts, parts_with}
use Rattle.dimacs_lines.proofs.StreamLemmas.{first_of_both, first_fault-append, first_fault-too_long, decided-goes_on, decided_part, no_fault_ended, complete_fault}

letters_too_long : (rest : Line) → is_too_long (rest ++ replicate 1025 120) ≡ true
letters_too_long rest = le-leb 1025 _ (omega (arith, length-append rest (replicate 1025 120), length-replicate {A = ℕ} 1025 120))

parts_of-letters : (n : ℕ) → parts_of (replicate n 120) ≡ record { ended = []; rest = replicate n 120 }
unfolding parts_of
parts_of-letters zero = refl
parts_of-letters (suc n) = rw (parts_of-letters n) refl

kept_too_long : (line : Line) → is_too_long line ≡ true → kept line ≡ None
kept_too_long line e = rw e refl

line_feed_parts : parts_of (10 ∷ []) ≡ first_parts true []
unfolding parts_of
line_feed_parts = refl

fits_by : (rule : Rule) (long : Bool) (ended : List Line) (rest : Line) → is_too_long rest ≡ long → first_fault rule ended (cond long (rest ∷ []) []) ≡ None → long ≡ false
fits_by rule true ended rest is none = absurd (some_none (sym (first_fault-too_long rule ended rest [] is) ∙ none))
  where
    some_none : {A : Type 0} {x : A} → ◌≡◌ {A = Option A} (Some x) None → ⊥
    some_none h = cc
fits_by rule false ended rest is none = refl

later_none : (found later : Option TextFault) → first_of_both found later ≡ None → later ≡ None
later_none None later e = e
later_none (Some f) later e = absurd cc

-- the line that is begun fits
begun_fits : (rule : Rule) (text : List ℕ) → decided rule text ≡ None → is_too_long (parts_of text).rest ≡ false
unfolding decided
begun_fits rule text none =
    let p = parts_of text in let tail : List Line = cond (is_too_long p.rest) (p.rest ∷ []) [] in
    fits_by rule (is_too_long p.rest) p.ended p.rest refl (later_none (first_fault rule [] p.ended) (first_fault rule p.ended tail) (sym (first_fault-append rule [] p.ended tail) ∙ none))

letters_are_bytes : IsBytes (replicate 1025 120)
letters_are_bytes = All-replicate (λ byte. byte < 256) 1025 120 (omega arith)

line_feed_is_byte : IsBytes (10 ∷ [])
line_feed_is_byte = All-cons (λ byte. byte < 256) 10 [] (omega arith) (All-nil (λ byte. byte < 256))

no_bytes : IsBytes []
no_bytes = All-nil (λ byte. byte < 256)

-- with many letters, the line that is begun is too long
decided_letters : (rule : Rule) (text : List ℕ) → decided rule text ≡ None → decided rule (text ++ replicate 1025 120) ≡ Some (at_line (number_of fault.TooLong) (length (parts_of text).ended + 1))
decided_letters rule text none =
    let p = parts_of text in let more = replicate 1025 120 in
    decided_part rule text more false more (parts_of-letters 1025) none
    ∙ ap (λ (line : Option Line). or_else (cut_fault rule line false p.ended) (length p.ended + 1) None) (kept_too_long (p.rest ++ more) (letters_too_long p.rest))

module _ {A : Type 0} (rule : Rule) (ends : List Line → Result A TextFault) where
  -- a fault that is decided is that of each text that goes on
  pub decided_always : (text more : List ℕ) (f : TextFault) → decided rule text ≡ Some f → read_by rule ends (text ++ more) ≡ Err f
  decided_always text more f e =
      let a = parts_of text in let b = parts_of more in
      let found = decided-goes_on rule text ((joined a b).ended ++ last_line (joined a b).rest) f (lines_go_on a.ended a.rest b.ended b.rest) e in
      rw (parts_of-append text more, found) refl

  same_error : (a b : TextFault) → ◌≡◌ {A = Result A TextFault} (Err a) (Err b) → a ≡ b
  same_error a b e = cc

  number_of_fault : (f : ℕ) (line other : ℕ) → ◌≡◌ {A = Result A TextFault} (Err (at_line f line)) (Err (text_fault.Fault 1 other)) → f ≡ 1
  number_of_fault f line other e = cc

  read_as : (text : List ℕ) (lines : List Line) (found : Option TextFault) → lines_of text ≡ lines → first_fault rule [] lines ≡ found → read_by rule ends text ≡ fault_or found (ends lines)
  read_as text lines found e h = rw (e, h) refl

  module _ (rule_other : (before : List Line) (line : Line) → rule before line ≢ Some (number_of fault.TooLong)) (end_other : (lines : List Line) (other : ℕ) → ends lines ≢ Err (text_fault.Fault 1 other)) where
    complete_other : (long : Bool) (before : List Line) (line : Line) → long ≡ false → cut_fault rule (cond long None (Some line)) true before ≢ Some (number_of fault.TooLong)
    complete_other true before line e = absurd cc
    complete_other false before line e = rule_other before line

    not_too_long : (found : Option ℕ) (count other : ℕ) (lines : List Line) → found ≢ Some (number_of fault.TooLong) → fault_or (or_else found count None) (ends lines) ≢ Err (text_fault.Fault 1 other)
    not_too_long None count other lines ne = end_other lines other
    not_too_long (Some f) count other lines ne = λ e. ne (ap (λ (x : ℕ). Some x) (number_of_fault f count other e))

    -- with an LF, it is not
    line_feed_other : (text : List ℕ) (other : ℕ) → decided rule text ≡ None → read_by rule ends (text ++ 10 ∷ []) ≢ Err (text_fault.Fault 1 other)
    line_feed_other text other none =
        let p = parts_of text in let line = p.rest ++ [] in let ls = p.ended ++ line ∷ [] in
        let lines_are : lines_of (text ++ 10 ∷ []) ≡ ls = ap (λ (q : Parts). q.ended ++ last_line q.rest) (parts_with text (10 ∷ []) true [] line_feed_parts) ∙ append-nil ls in
        let found : first_fault rule [] ls ≡ or_else (cut_fault rule (kept line) true p.ended) (length p.ended + 1) None =
        first_fault-append rule [] p.ended (line ∷ []) ∙ ap (λ (f : Option TextFault). first_of_both f (first_fault rule p.ended (line ∷ []))) (no_fault_ended rule text none) ∙ complete_fault rule (is_too_long line) p.ended line refl in
        let fits : is_too_long line ≡ false = rw append-nil (begun_fits rule text none) in
        λ e. not_too_long (cut_fault rule (kept line) true p.ended) (length p.ended + 1) other ls (complete_other (is_too_long line) p.ended line fits) (sym (read_as (text ++ 10 ∷ []) ls _ lines_are found) ∙ e)

    only_by : (found : Option TextFault) (text : List ℕ) (f : TextFault) → decided rule text ≡ found → ((more : List ℕ) → IsBytes more → read_by rule ends (text ++ more) ≡ Err f) → found ≡ Some f
    only_by (Some g) text f d all = ap (λ (x : TextFault). Some x) (same_error g f (sym (decided_always text [] g d) ∙ all [] no_bytes))
    only_by None text f d all =
        let letters : read_by rule ends (text ++ replicate 1025 120) ≡ Err (at_line (number_of fault.TooLong) (length (parts_of text).ended + 1)) = rw append-nil at (decided_always (text ++ replicate 1025 120) [] _ (decided_letters rule text d)) in
        let letters_say = same_error _ _ (sym letters ∙ all (replicate 1025 120) letters_are_bytes) in
        absurd (line_feed_other text _ d (all (10 ∷ []) line_feed_is_byte ∙ ap (λ (x : TextFault). Err x) (sym letters_say)))

    -- the fault that each text has which begins so is decided
    pub decided_only : (text : List ℕ) (f : TextFault) → ((more : List ℕ) → IsBytes more → read_by rule ends (text ++ more) ≡ Err f) → decided rule text ≡ Some f
    decided_only text f all = only_by (decided rule text) text f refl all
