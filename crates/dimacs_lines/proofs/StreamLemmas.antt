-- What a reader holds after a part of a piece, under any rule.
use Rattle.std.proofs.Common.{◌≡◌, ◌≢◌, ℕ, ◌+◌, ◌-◌, ◌^◌, ◌<◌, min, Bool, true, false, cond, if◌then◌else◌, List, [], ◌∷◌, ◌++◌, length, take, drop, Option, Some, None, Result, Err, refl, sym, ap, ◌∙◌, append_assoc, arith}
use Rattle.std.specs.List.{before_first}
use Rattle.std.proofs.lemmas.List.{append-nil, length_push, take-append-drop, take_rest}
use Rattle.dimacs_lines.specs.declared.fault.LineFault.TheVariants as fault
use Rattle.dimacs_lines.specs.declared.fault.TextFault.{TextFault}
use Rattle.dimacs_lines.specs.declared.fault.TextFault.TheVariants as text_fault
use Rattle.dimacs_lines.specs.declared.fault.LineError.{LineError}
use Rattle.dimacs_lines.specs.declared.fault.LineError.TheVariants as line_error
use Rattle.dimacs_lines.specs.Fault.{number_of, located}
use Rattle.dimacs_lines.specs.Lines.{Line, Parts, parts_of, lines_of, last_line, is_line_feed, is_too_long}
use Rattle.dimacs_lines.specs.Cut.{Cut, kept, extended, begun_line, begun_with, part_line, has_line_feed, bytes_used}
use Rattle.dimacs_lines.proofs.LineLemmas.{joined, joined_parts, parts_of-append}
use Rattle.dimacs_lines.proofs.GoesOnLemmas.{GoesOn, settled_go_on, last_line-too_long}
use Rattle.dimacs_lines.proofs.PartLemmas.{line_feed_used, first_parts, parts_of-first, parts_with, extended-kept}
use Rattle.dimacs_lines.specs.Stream.{Rule, counted, at_line, fault_among, or_else, first_fault, settled_lines, decided, ReportsCut, cut_fault, lines_after, PartTaken, IsOpen, EndsWell, IsDecidedBy}

-- the first fault of two lists in a row
abbrev pub first_of_both : Option TextFault → Option TextFault → Option TextFault
first_of_both None later = later
first_of_both (Some fault) later = Some fault

or_else-both : (here : Option ℕ) (line : ℕ) (a b : Option TextFault) → or_else here line (first_of_both a b) ≡ first_of_both (or_else here line a) b
or_else-both None line a b = refl
or_else-both (Some f) line a b = refl

pub first_fault-append : (rule : Rule) (before lines more : List Line) → first_fault rule before (lines ++ more) ≡ first_of_both (first_fault rule before lines) (first_fault rule (before ++ lines) more)
unfolding first_fault
first_fault-append rule before [] more = rw append-nil refl
first_fault-append rule before (line ∷ lines) more =
    ap (λ (later : Option TextFault). or_else (fault_among rule before line) (length before + 1) later) (first_fault-append rule (before ++ line ∷ []) lines more ∙ ap (λ (b : List Line). first_of_both (first_fault rule (before ++ line ∷ []) lines) (first_fault rule b more)) (append_assoc before (line ∷ []) lines))
    ∙ or_else-both (fault_among rule before line) (length before + 1) (first_fault rule (before ++ line ∷ []) lines) (first_fault rule (before ++ line ∷ lines) more)

pub first_fault-too_long : (rule : Rule) (before : List Line) (line : Line) (others : List Line) → is_too_long line ≡ true → first_fault rule before (line ∷ others) ≡ Some (at_line (number_of fault.TooLong) (length before + 1))
unfolding first_fault fault_among
first_fault-too_long rule before line others long = rw long refl

no_fault_in_nothing : (rule : Rule) (before : List Line) (f : TextFault) → first_fault rule before [] ≡ Some f → ⊥
unfolding first_fault
no_fault_in_nothing rule before f h = cc

still_decided : (rule : Rule) (found : Option TextFault) (ended : List Line) (rest : Line) (tail : List Line) (long : Bool) (fault : TextFault) → is_too_long rest ≡ long
    → (long ≡ true → (line : Line) × (others : List Line) × (tail ≡ line ∷ others) × (is_too_long line ≡ true))
    → first_of_both found (first_fault rule ended (cond long (rest ∷ []) [])) ≡ Some fault → first_of_both found (first_fault rule ended tail) ≡ Some fault
still_decided rule (Some f) ended rest tail long fault is_long on e = e
still_decided rule None ended rest tail true fault is_long on e =
    let o = on refl in
    rw o.2 (first_fault-too_long rule ended o.0 o.1 o.3 ∙ sym (first_fault-too_long rule ended rest [] is_long) ∙ e)
still_decided rule None ended rest tail false fault is_long on e = absurd (no_fault_in_nothing rule ended fault e)

pub decided-goes_on : (rule : Rule) (text : List ℕ) (lines : List Line) (fault : TextFault) → GoesOn (parts_of text) lines → decided rule text ≡ Some fault → first_fault rule [] lines ≡ Some fault
unfolding decided
decided-goes_on rule text lines fault on e =
    let p = parts_of text in
    rw on.lines_are (first_fault-append rule [] p.ended on.tail
    ∙ still_decided rule (first_fault rule [] p.ended) p.ended p.rest on.tail (is_too_long p.rest) fault refl on.too_long (sym (first_fault-append rule [] p.ended (cond (is_too_long p.rest) (p.rest ∷ []) [])) ∙ e))

pub decided-append : (rule : Rule) (text more : List ℕ) (fault : TextFault) → decided rule text ≡ Some fault → decided rule (text ++ more) ≡ Some fault
unfolding decided
decided-append rule text more fault e =
    let a = parts_of text in let b = parts_of more in
    rw (parts_of-append text more) (decided-goes_on rule text (settled_lines (joined a b)) fault (settled_go_on a.ended a.rest b.ended b.rest) e)

none_before : (found later : Option TextFault) → first_of_both found later ≡ None → found ≡ None
none_before None later e = refl
none_before (Some f) later e = e

pub no_fault_ended : (rule : Rule) (text : List ℕ) → decided rule text ≡ None → first_fault rule [] (parts_of text).ended ≡ None
unfolding decided
no_fault_ended rule text e =
    let p = parts_of text in let tail : List Line = cond (is_too_long p.rest) (p.rest ∷ []) [] in
    none_before (first_fault rule [] p.ended) (first_fault rule p.ended tail) (sym (first_fault-append rule [] p.ended tail) ∙ e)

-- ---- one part more

pub complete_fault : (rule : Rule) (long : Bool) (before : List Line) (line : Line) → is_too_long line ≡ long → first_fault rule before (line ∷ []) ≡ or_else (cut_fault rule (cond long None (Some line)) true before) (length before + 1) None
unfolding first_fault fault_among
complete_fault rule true before line e = rw e refl
complete_fault rule false before line e = rw e refl

begun_fault : (rule : Rule) (long : Bool) (before : List Line) (line : Line) → is_too_long line ≡ long → first_fault rule before (cond long (line ∷ []) []) ≡ or_else (cut_fault rule (cond long None (Some line)) false before) (length before + 1) None
unfolding first_fault
begun_fault rule true before line e = first_fault-too_long rule before line [] e
begun_fault rule false before line e = refl

part_fault : (rule : Rule) (has : Bool) (ended : List Line) (rest line : Line) → first_fault rule [] ended ≡ None
    → first_fault rule [] (settled_lines (let b = first_parts has line in joined_parts ended rest b.ended b.rest)) ≡ or_else (cut_fault rule (kept (rest ++ line)) has ended) (length ended + 1) None
part_fault rule true ended rest line none =
    let l = rest ++ line in
    ap (first_fault rule []) (append-nil (ended ++ l ∷ [])) ∙ first_fault-append rule [] ended (l ∷ []) ∙ ap (λ (found : Option TextFault). first_of_both found (first_fault rule ended (l ∷ []))) none ∙ complete_fault rule (is_too_long l) ended l refl
part_fault rule false ended rest line none =
    let l = rest ++ line in let tail : List Line = cond (is_too_long l) (l ∷ []) [] in
    first_fault-append rule [] ended tail ∙ ap (λ (found : Option TextFault). first_of_both found (first_fault rule ended tail)) none ∙ begun_fault rule (is_too_long l) ended l refl

decided_by : (rule : Rule) (text : List ℕ) (parts : Parts) (found : Option TextFault) → parts_of text ≡ parts → first_fault rule [] (settled_lines parts) ≡ found → decided rule text ≡ found
unfolding decided
decided_by rule text parts found e h = rw e h

pub decided_part : (rule : Rule) (text part : List ℕ) (has : Bool) (line : Line) → parts_of part ≡ first_parts has line → decided rule text ≡ None
    → decided rule (text ++ part) ≡ or_else (cut_fault rule (kept ((parts_of text).rest ++ line)) has (parts_of text).ended) (length (parts_of text).ended + 1) None
decided_part rule text part has line e none =
    let p = parts_of text in
    decided_by rule (text ++ part) _ _ (parts_with text part has line e) (part_fault rule has p.ended p.rest line (no_fault_ended rule text none))

abbrev pub lines_with : Bool → ℕ → ℕ
lines_with has lines = if has then min (lines + 1) (2 ^ 64 - 1) else lines

module _ {T : Type 0} (rule : Rule) (holds : List Line → T → Type 0) where
  open_by : (text : List ℕ) (parts : Parts) (taker : T) (lines : ℕ) (begun : Option Line) → parts_of text ≡ parts → decided rule text ≡ None → lines ≡ counted (length parts.ended) → holds parts.ended taker → begun ≡ kept parts.rest → IsOpen rule holds text lines taker begun
  open_by text parts taker lines begun e none lines_are held begun_is = record { undecided = none; lines_are = rw e lines_are; held = rw e held; begun_is = rw e begun_is }

  part_open : (has long : Bool) (text part : List ℕ) (line : Line) (lines : ℕ) (taker : T) → parts_of part ≡ first_parts has line → is_too_long ((parts_of text).rest ++ line) ≡ long
      → decided rule (text ++ part) ≡ None → lines ≡ counted (length (parts_of text).ended) → cut_fault rule (cond long None (Some ((parts_of text).rest ++ line))) has (parts_of text).ended ≡ None
      → holds (lines_after (cond long None (Some ((parts_of text).rest ++ line))) has (parts_of text).ended) taker
      → IsOpen rule holds (text ++ part) (lines_with has lines) taker (begun_with has (cond long None (Some ((parts_of text).rest ++ line))))
  part_open has true text part line lines taker e is none lines_are fault held = absurd cc
  part_open true false text part line lines taker e is none lines_are fault held =
      let more : min (lines + 1) (2 ^ 64 - 1) ≡ counted (length ((parts_of text).ended ++ ((parts_of text).rest ++ line) ∷ [])) = rw (length_push, lines_are) (omega arith) in
      open_by (text ++ part) _ taker _ _ (parts_with text part true line e) none more held refl
  part_open false false text part line lines taker e is none lines_are fault held =
      open_by (text ++ part) _ taker _ _ (parts_with text part false line e) none lines_are held (rw is refl)

  module _ (text piece : List ℕ) (cutter : Cut) (taker : T) (lines : ℕ) (some : 0 < length piece) (open_is : IsOpen rule holds text lines taker (begun_line cutter)) where
    line_is : part_line cutter piece ≡ kept ((parts_of text).rest ++ before_first is_line_feed piece)
    line_is = ap (λ (b : Option Line). extended b (before_first is_line_feed piece)) open_is.begun_is ∙ extended-kept (parts_of text).rest (before_first is_line_feed piece)

    part_undecided : cut_fault rule (part_line cutter piece) (has_line_feed piece) (parts_of text).ended ≡ None → decided rule (text ++ take (bytes_used piece) piece) ≡ None
    part_undecided fault =
        let line = before_first is_line_feed piece in let p = parts_of text in
        let fault_is : cut_fault rule (kept (p.rest ++ line)) (has_line_feed piece) p.ended ≡ None = rw (← line_is) fault in
        decided_part rule text (take (bytes_used piece) piece) (has_line_feed piece) line (parts_of-first piece) open_is.undecided ∙ ap (λ (f : Option ℕ). or_else f (length p.ended + 1) None) fault_is

    pub part_ends : has_line_feed piece ≡ true → cut_fault rule (part_line cutter piece) (has_line_feed piece) (parts_of text).ended ≡ None → EndsWell rule text piece
    part_ends has fault =
        let line = before_first is_line_feed piece in let rest = drop (bytes_used piece) piece in
        let used = line_feed_used piece has in
        record {
          front = line;
          rest = rest;
          piece_is = sym (take-append-drop (bytes_used piece) piece) ∙ ap (λ (p : List ℕ). p ++ rest) used ∙ append_assoc line (10 ∷ []) rest;
          undecided = sym (ap (λ (p : List ℕ). decided rule (text ++ p)) used) ∙ part_undecided fault;
        }

    pub part_ok : (new : T) → cut_fault rule (part_line cutter piece) (has_line_feed piece) (parts_of text).ended ≡ None → holds (lines_after (part_line cutter piece) (has_line_feed piece) (parts_of text).ended) new
        → (decided rule (text ++ take (bytes_used piece) piece) ≡ None) × IsOpen rule holds (text ++ take (bytes_used piece) piece) (lines_with (has_line_feed piece) lines) new (begun_with (has_line_feed piece) (part_line cutter piece))
    part_ok new fault held =
        let line = before_first is_line_feed piece in let p = parts_of text in
        let fault_is : cut_fault rule (kept (p.rest ++ line)) (has_line_feed piece) p.ended ≡ None = rw (← line_is) fault in
        let held_is : holds (lines_after (kept (p.rest ++ line)) (has_line_feed piece) p.ended) new = rw (← line_is) held in
        let none = part_undecided fault in
        (none, rw line_is (part_open (has_line_feed piece) (is_too_long (p.rest ++ line)) text (take (bytes_used piece) piece) line lines new (parts_of-first piece) refl none open_is.lines_are fault_is held_is))

    pub part_fails : (f : ℕ) → cut_fault rule (part_line cutter piece) (has_line_feed piece) (parts_of text).ended ≡ Some f
        → decided rule (text ++ take (bytes_used piece) piece) ≡ Some (text_fault.Fault f (min (lines + 1) (2 ^ 64 - 1)))
    part_fails f fault =
        let line = before_first is_line_feed piece in let p = parts_of text in
        let fault_is : cut_fault rule (kept (p.rest ++ line)) (has_line_feed piece) p.ended ≡ Some f = rw (← line_is) fault in
        let found = decided_part rule text (take (bytes_used piece) piece) (has_line_feed piece) line (parts_of-first piece) open_is.undecided in
        let count : counted (length p.ended + 1) ≡ min (lines + 1) (2 ^ 64 - 1) = rw open_is.lines_are (omega arith) in
        found ∙ ap (λ (f : Option ℕ). or_else f (length p.ended + 1) None) fault_is ∙ ap (λ (n : ℕ). Some (text_fault.Fault f n)) count

  -- ---- by what the calls ensure

  pub part_taken : (text piece : List ℕ) (cutter after : Cut) (taker new : T) (lines used : ℕ) (complete : Bool) → 0 < length piece → used ≡ bytes_used piece → complete ≡ has_line_feed piece
      → ((before : List Line) → holds before taker → PartTaken rule holds before cutter piece after new) → IsOpen rule holds text lines taker (begun_line cutter)
      → (decided rule (text ++ take used piece) ≡ None) × IsOpen rule holds (text ++ take used piece) (lines_with complete lines) new (begun_line after)
  part_taken text piece cutter after taker new lines used complete some used_is complete_is taken open_is =
      let t = taken (parts_of text).ended open_is.held in
      rw (t.begun_is, used_is, complete_is) (part_ok text piece cutter taker lines some open_is new t.faultless t.held)

pub whole_piece : (rule : Rule) (text piece : List ℕ) (used : ℕ) (fault : TextFault) → decided rule (text ++ take used piece) ≡ Some fault → decided rule (text ++ piece) ≡ Some fault
whole_piece rule text piece used fault e =
    let whole : (text ++ take used piece) ++ drop used piece ≡ text ++ piece = append_assoc text (take used piece) (drop used piece) ∙ ap (λ (p : List ℕ). text ++ p) (take-append-drop used piece) in
    sym (ap (decided rule) whole) ∙ decided-append rule (text ++ take used piece) (drop used piece) fault e

pub piece_failed : {T : Type 0} (rule : Rule) (holds : List Line → T → Type 0) (e : LineError) (text piece : List ℕ) (cutter : Cut) (taker : T) (lines : ℕ) → 0 < length piece
    → ((before : List Line) → holds before taker → ReportsCut rule e (part_line cutter piece) (has_line_feed piece) before) → IsOpen rule holds text lines taker (begun_line cutter)
    → IsDecidedBy rule (located e (min (lines + 1) (2 ^ 64 - 1))) text piece
piece_failed rule holds line_error.Memory text piece cutter taker lines some reported open_is =
    let r = reported (parts_of text).ended open_is.held in
    part_ends rule holds text piece cutter taker lines some open_is r.1 r.0
piece_failed rule holds (line_error.Fault f) text piece cutter taker lines some reported open_is =
    whole_piece rule text piece (bytes_used piece) _ (part_fails rule holds text piece cutter taker lines some open_is f (reported (parts_of text).ended open_is.held))

-- want of memory is never decided
no_memory_by : (here : Option ℕ) (line : ℕ) (later : Option TextFault) → later ≢ Some text_fault.Memory → or_else here line later ≢ Some text_fault.Memory
no_memory_by None line later ne = ne
no_memory_by (Some f) line later ne = λ e. absurd cc

no_memory_first : (rule : Rule) (before lines : List Line) → first_fault rule before lines ≢ Some text_fault.Memory
unfolding first_fault
no_memory_first rule before [] = λ e. absurd cc
no_memory_first rule before (line ∷ lines) = no_memory_by (fault_among rule before line) (length before + 1) (first_fault rule (before ++ line ∷ []) lines) (no_memory_first rule (before ++ line ∷ []) lines)

pub no_memory_decided : (rule : Rule) (text : List ℕ) → decided rule text ≢ Some text_fault.Memory
unfolding decided
no_memory_decided rule text = no_memory_first rule [] (settled_lines (parts_of text))

pub tells_failed : (rule : Rule) (fault : TextFault) (text piece : List ℕ) → decided rule text ≡ Some fault → IsDecidedBy rule fault text piece
tells_failed rule text_fault.Memory text piece e = absurd (no_memory_decided rule text e)
tells_failed rule (text_fault.Fault number line) text piece e = decided-append rule text piece (text_fault.Fault number line) e

-- the reader of the empty text
pub undecided_nothing : (rule : Rule) → decided rule [] ≡ None
unfolding decided first_fault parts_of
undecided_nothing rule = refl

pub parts_of_nothing : parts_of [] ≡ record { ended = []; rest = [] }
unfolding parts_of
parts_of_nothing = refl

-- ---- all parts of a piece

pub fed_more : {S R : Type 0} (rule : S → Rule) (stands : S → R → List ℕ → Type 0) (piece done rest : List ℕ) (used : ℕ) (old now new : R) → piece ≡ done ++ rest
    → ((setting : S) (text : List ℕ) → stands setting old text → (decided (rule setting) (text ++ done) ≡ None) × stands setting now (text ++ done))
    → ((setting : S) (text : List ℕ) → stands setting now text → (decided (rule setting) (text ++ take used rest) ≡ None) × stands setting new (text ++ take used rest))
    → (x : List ℕ) × (piece ≡ x ++ take (length rest - used) (drop used rest)) × ((setting : S) (text : List ℕ) → stands setting old text → (decided (rule setting) (text ++ x) ≡ None) × stands setting new (text ++ x))
fed_more rule stands piece done rest used old now new e before part = (
  done ++ take used rest,
  rw take_rest (e ∙ ap (λ (r : List ℕ). done ++ r) (sym (take-append-drop used rest)) ∙ sym (append_assoc done (take used rest) (drop used rest))),
  λ setting text h. let b = before setting text h in rw (← append_assoc text done (take used rest)) (part setting (text ++ done) b.1),
)

-- where want of memory is told, it is for a line without a fault
pub well_told : (rule : Rule) (fault : TextFault) (text piece : List ℕ) → IsDecidedBy rule fault text piece → ◌≡◌ {A = Result (Unit {0}) TextFault} (Err fault) (Err text_fault.Memory) → EndsWell rule text piece
well_told rule text_fault.Memory text piece tells is = tells
well_told rule (text_fault.Fault number line) text piece tells is = absurd cc

-- a line that ends in what is left of a piece ends in the piece
pub ends_later : (rule : Rule) (text piece done rest : List ℕ) → piece ≡ done ++ rest → EndsWell rule (text ++ done) rest → EndsWell rule text piece
ends_later rule text piece done rest e well = record {
  front = done ++ well.front;
  rest = well.rest;
  piece_is = e ∙ ap (λ (r : List ℕ). done ++ r) well.piece_is ∙ sym (append_assoc done well.front (10 ∷ well.rest));
  undecided = ap (decided rule) (ap (λ (r : List ℕ). text ++ r) (append_assoc done well.front (10 ∷ [])) ∙ sym (append_assoc text done (well.front ++ 10 ∷ []))) ∙ well.undecided;
}

-- the lines of a text, as those of the same text that goes on with nothing
pub lines_go_on_nothing : (text : List ℕ) → GoesOn (parts_of text) (lines_of text)
lines_go_on_nothing text =
    let p = parts_of text in
    record { tail = last_line p.rest; lines_are = refl; too_long = λ long. (p.rest, [], last_line-too_long p.rest long, long) }
