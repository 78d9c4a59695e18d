-- The end of a text, under any rule.
use Rattle.std.proofs.Common.{◌≡◌, ◌≢◌, ℕ, ◌+◌, ◌-◌, ◌^◌, min, Bool, true, false, cond, List, [], ◌∷◌, ◌++◌, length, Option, Some, None, Err, refl, sym, ap, ◌∙◌, arith}
use Rattle.std.proofs.lemmas.List.{append-nil, length_push}
use Rattle.dimacs_lines.specs.declared.fault.TextFault.{TextFault}
use Rattle.dimacs_lines.specs.declared.fault.TextFault.TheVariants as text_fault
use Rattle.dimacs_lines.specs.declared.fault.LineError.{LineError}
use Rattle.dimacs_lines.specs.declared.fault.LineError.TheVariants as line_error
use Rattle.dimacs_lines.specs.Fault.{located}
use Rattle.dimacs_lines.specs.Lines.{Line, parts_of, lines_of, last_line, is_too_long}
use Rattle.dimacs_lines.specs.Cut.{Cut, kept, begun_line, has_bytes}
use Rattle.dimacs_lines.proofs.BegunLemmas.{cut_line_of, bytes_begun, no_bytes_begun}
use Rattle.dimacs_lines.specs.Stream.{Rule, counted, or_else, first_fault, decided, ReportsCut, cut_fault, lines_after, IsOpen}
use Rattle.dimacs_lines.specs.Reader.{Finishes}
use Rattle.dimacs_lines.proofs.StreamLemmas.{first_of_both, first_fault-append, no_fault_ended, complete_fault, decided-goes_on, lines_go_on_nothing, no_memory_decided}

rest_by : (long : Bool) (rest : Line) → cond long None (Some rest) ≡ Some [] → rest ≡ []
rest_by true rest e = absurd cc
rest_by false rest e = cc

last_line_begun : (rest : Line) → kept rest ≢ Some [] → last_line rest ≡ rest ∷ []
last_line_begun [] ne = absurd (ne refl)
last_line_begun (byte ∷ bytes) ne = refl

lines_complete : (rule : Rule) (long : Bool) (before : List Line) (line : Line) → cut_fault rule (cond long None (Some line)) true before ≡ None → lines_after (cond long None (Some line)) true before ≡ before ++ line ∷ []
lines_complete rule true before line e = absurd cc
lines_complete rule false before line e = refl

module _ {T : Type 0} (rule : Rule) (holds : List Line → T → Type 0) (text : List ℕ) (lines : ℕ) (taker : T) (cut : Cut) (open_is : IsOpen rule holds text lines taker (begun_line cut)) where
  pub ended_all : has_bytes (begun_line cut) ≡ false → (first_fault rule [] (lines_of text) ≡ None) × holds (lines_of text) taker × (lines ≡ counted (length (lines_of text)))
  ended_all none =
      let p = parts_of text in
      let rest_is = rest_by (is_too_long p.rest) p.rest (sym open_is.begun_is ∙ no_bytes_begun (begun_line cut) none) in
      let all : lines_of text ≡ p.ended = ap (λ (r : Line). p.ended ++ last_line r) rest_is ∙ append-nil p.ended in
      rw all (no_fault_ended rule text open_is.undecided, open_is.held, open_is.lines_are)

  module _ (begun : has_bytes (begun_line cut) ≡ true) where
    line_is : cut.line ≡ kept (parts_of text).rest
    line_is = cut_line_of cut (bytes_begun (begun_line cut) begun) ∙ open_is.begun_is

    rest_begun : kept (parts_of text).rest ≢ Some []
    rest_begun e = bytes_begun (begun_line cut) begun (open_is.begun_is ∙ e)

    all_is : lines_of text ≡ (parts_of text).ended ++ (parts_of text).rest ∷ []
    all_is = ap (λ (ls : List Line). (parts_of text).ended ++ ls) (last_line_begun (parts_of text).rest rest_begun)

    found : first_fault rule [] (lines_of text) ≡ or_else (cut_fault rule cut.line true (parts_of text).ended) (length (parts_of text).ended + 1) None
    found =
        let p = parts_of text in
        rw (all_is, line_is) (first_fault-append rule [] p.ended (p.rest ∷ []) ∙ ap (λ (f : Option TextFault). first_of_both f (first_fault rule p.ended (p.rest ∷ []))) (no_fault_ended rule text open_is.undecided) ∙ complete_fault rule (is_too_long p.rest) p.ended p.rest refl)

    pub last_taken : (new : T) → ((before : List Line) → holds before taker → (cut_fault rule cut.line true before ≡ None) × holds (lines_after cut.line true before) new)
        → (first_fault rule [] (lines_of text) ≡ None) × holds (lines_of text) new × (min (lines + 1) (2 ^ 64 - 1) ≡ counted (length (lines_of text)))
    last_taken new taken =
        let p = parts_of text in let t = taken p.ended open_is.held in
        let none : first_fault rule [] (lines_of text) ≡ None = found ∙ ap (λ (f : Option ℕ). or_else f (length p.ended + 1) None) t.0 in
        let lines_eq : lines_after cut.line true p.ended ≡ lines_of text = rw (line_is, all_is) (lines_complete rule (is_too_long p.rest) p.ended p.rest (rw line_is at t.0)) in
        let count : min (lines + 1) (2 ^ 64 - 1) ≡ counted (length (lines_of text)) = rw (all_is, length_push, open_is.lines_are) (omega arith) in
        (none, rw (← lines_eq) t.1, count)

    pub last_fails : (e : LineError) → ((before : List Line) → holds before taker → ReportsCut rule e cut.line true before) → Finishes rule holds (Err (located e (min (lines + 1) (2 ^ 64 - 1)))) text
    last_fails line_error.Memory reported =
        let p = parts_of text in record {
          begun = λ e. rest_begun (ap kept e);
          faultless = found ∙ ap (λ (f : Option ℕ). or_else f (length p.ended + 1) None) (reported p.ended open_is.held).0;
        }
    last_fails (line_error.Fault f) reported =
        let p = parts_of text in
        let count : counted (length p.ended + 1) ≡ min (lines + 1) (2 ^ 64 - 1) = rw open_is.lines_are (omega arith) in
        found ∙ ap (λ (f : Option ℕ). or_else f (length p.ended + 1) None) (reported p.ended open_is.held) ∙ ap (λ (n : ℕ). Some (text_fault.Fault f n)) count

-- a fault that is decided is the first of the lines
pub finishes_failed : {T : Type 0} (rule : Rule) (holds : List Line → T → Type 0) (fault : TextFault) (text : List ℕ) → decided rule text ≡ Some fault → Finishes rule holds (Err fault) text
finishes_failed rule holds text_fault.Memory text e = absurd (no_memory_decided rule text e)
finishes_failed rule holds (text_fault.Fault number line) text e = decided-goes_on rule text (lines_of text) (text_fault.Fault number line) (lines_go_on_nothing text) e
