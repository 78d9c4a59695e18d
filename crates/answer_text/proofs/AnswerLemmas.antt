-- An answer text is read as its draft and its end say.
use Rattle.std.proofs.Common.{◌≡◌, ℕ, Bool, true, false, cond, ◌&&◌, ◌==◌, List, [], Option, Some, None, Result, Ok, Err, ℤ, length, refl, sym, ap, subst, ◌∙◌}
use Rattle.std.proofs.lemmas.Bool.{eqb-true, and_parts}
use Rattle.answer_text.specs.declared.answer_fault.AnswerFault.{AnswerFault}
use Rattle.answer_text.specs.declared.answer_fault.AnswerFault.TheVariants as fault
use Rattle.dimacs_lines.specs.declared.fault.LineError.{LineError}
use Rattle.dimacs_lines.specs.declared.fault.TextFault.{TextFault}
use Rattle.dimacs_lines.specs.declared.fault.TextFault.TheVariants as text_fault
use Rattle.answer_text.specs.AnswerFault.{number_of}
use Rattle.dimacs_lines.specs.Lines.{Line, lines_of}
use Rattle.dimacs_lines.specs.Stream.{counted, first_fault, TakesLine}
use Rattle.dimacs_lines.specs.Reader as generic
use Rattle.answer_text.specs.declared.answer.Answer.{Answer}
use Rattle.answer_text.specs.declared.answer.Answer.TheVariants.{Flow, Cut}
use Rattle.answer_text.specs.declared.answer.FlowLine.{FlowLine}
use Rattle.answer_text.specs.Answer.{Drafted, Said, NamesNodes, FitsSize, flow_ending, answer_ending_by, TakesAnswerLine, said_of, and_said, answer_line_fault, answer_ending, answer_rule, answers}
use Rattle.answer_text.specs.AnswerReader.{HoldsAnswer, FinishesAnswer}
use Rattle.answer_text.proofs.SaidLemmas.{said_of_push, said_of_nothing}

pub line_taken : (result : Result (Unit {0}) LineError) (nodes arcs : ℕ) (old new : Drafted) (before : List Line) (line : Line) → TakesAnswerLine result line old new → HoldsAnswer nodes arcs before old → TakesLine (answer_rule nodes arcs) (HoldsAnswer nodes arcs) result before line new
line_taken (Ok x) nodes arcs old new before line taken held =
    let t = subst (λ (d : Drafted). (answer_line_fault d.nodes d.arcs d.said line ≡ None) × (new ≡ record { nodes = d.nodes; arcs = d.arcs; said = and_said d.said line })) held taken in
    (t.0, t.1 ∙ rw said_of_push refl)
line_taken (Err e) nodes arcs old new before line taken held = rw held at taken

pub nothing_held : (nodes arcs : ℕ) (draft : Drafted) → draft ≡ record { nodes = nodes; arcs = arcs; said = record { value = None; flows = []; potentials = []; shortage = None; cut = [] } } → HoldsAnswer nodes arcs [] draft
nothing_held nodes arcs draft e = rw said_of_nothing e

whole_by : (met : Bool) (nodes arcs : ℕ) (value : ℤ) (flows : List FlowLine) (potentials : List ℤ) (answer : Answer) → (length flows == arcs && length potentials == nodes) ≡ met
    → ◌≡◌ {A = Result Answer AnswerFault} (Ok answer) (cond met (Ok (Flow value flows potentials)) (Err fault.OutOfOrder)) → NamesNodes nodes answer → FitsSize nodes arcs answer
whole_by true nodes arcs value flows potentials answer met e named =
    let counts = and_parts (length flows == arcs) (length potentials == nodes) met in
    let is : Flow value flows potentials ≡ answer = cc in
    let whole : NamesNodes nodes (Flow value flows potentials) → FitsSize nodes arcs (Flow value flows potentials) = λ n. record { each_arc = eqb-true _ _ counts.0; each_node = eqb-true _ _ counts.1; ends = n } in
    subst (λ (a : Answer). NamesNodes nodes a → FitsSize nodes arcs a) is whole named
whole_by false nodes arcs value flows potentials answer met e named = absurd cc

flow_fits : (nodes arcs : ℕ) (value : Option ℤ) (said : Said) (answer : Answer) → Ok answer ≡ flow_ending nodes arcs value said → NamesNodes nodes answer → FitsSize nodes arcs answer
flow_fits nodes arcs None said answer e named = absurd cc
flow_fits nodes arcs (Some value) said answer e named = whole_by (length said.flows == arcs && length said.potentials == nodes) nodes arcs value said.flows said.potentials answer refl e named

ending_fits : (nodes arcs : ℕ) (shortage : Option ℤ) (said : Said) (answer : Answer) → Ok answer ≡ answer_ending_by nodes arcs shortage said → NamesNodes nodes answer → FitsSize nodes arcs answer
ending_fits nodes arcs None said answer e named = flow_fits nodes arcs said.value said answer e named
ending_fits nodes arcs (Some shortage) said answer e named =
    let is : Cut shortage said.cut ≡ answer = cc in
    let fits : NamesNodes nodes (Cut shortage said.cut) → FitsSize nodes arcs (Cut shortage said.cut) = λ n. n in
    subst (λ (a : Answer). NamesNodes nodes a → FitsSize nodes arcs a) is fits named

pub answer_fits : (nodes arcs : ℕ) (lines : List Line) (draft : Drafted) (answer : Answer) → HoldsAnswer nodes arcs lines draft → Ok answer ≡ answer_ending draft.nodes draft.arcs draft.said → NamesNodes draft.nodes answer → FitsSize nodes arcs answer
answer_fits nodes arcs lines draft answer held closed named =
    ending_fits nodes arcs (said_of lines).shortage (said_of lines) answer (closed ∙ ap (λ (d : Drafted). answer_ending d.nodes d.arcs d.said) held) (subst (λ (d : Drafted). NamesNodes d.nodes answer) held named)

module _ (nodes arcs : ℕ) (text : List ℕ) where
  module _ (draft : Drafted) (found : first_fault (answer_rule nodes arcs) [] (lines_of text) ≡ None) (held : HoldsAnswer nodes arcs (lines_of text) draft) where
    ending_is : answer_ending draft.nodes draft.arcs draft.said ≡ answer_ending nodes arcs (said_of (lines_of text))
    ending_is = ap (λ (d : Drafted). answer_ending d.nodes d.arcs d.said) held

    pub answers_ok : (answer : Answer) → Ok answer ≡ answer_ending draft.nodes draft.arcs draft.said → answers nodes arcs text ≡ Ok answer
    unfolding answers
    answers_ok answer closed = rw (found, sym (closed ∙ ending_is)) refl

    pub answers_end : (f : AnswerFault) (lines : ℕ) → lines ≡ counted (length (lines_of text)) → Err f ≡ answer_ending draft.nodes draft.arcs draft.said → answers nodes arcs text ≡ Err (text_fault.Fault (number_of f) lines)
    unfolding answers
    answers_end f lines count closed = rw (found, sym (closed ∙ ending_is), count) refl

  pub answers_fault : (e : TextFault) → generic.Finishes (answer_rule nodes arcs) (HoldsAnswer nodes arcs) (Err e) text → FinishesAnswer nodes arcs (Err e) text
  unfolding answers
  answers_fault text_fault.Memory found = found
  answers_fault (text_fault.Fault number line) found = rw found refl
