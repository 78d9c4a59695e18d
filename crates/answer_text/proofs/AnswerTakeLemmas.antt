-- A line of an answer text that is taken, by its designator.
use Rattle.std.proofs.Common.{◌≡◌, List, [], ◌∷◌, ◌++◌, Option, Some, None, Result, Ok, Err, ℤ, refl, sym, ap, ◌∙◌}
use Rattle.std.proofs.lemmas.List.{append-nil}
use Rattle.answer_text.specs.declared.answer_fault.AnswerFault.{AnswerFault}
use Rattle.dimacs_lines.specs.declared.fault.LineError.{LineError}
use Rattle.dimacs_lines.specs.Lines.{Line}
use Rattle.dimacs_lines.specs.Fields.{Word, words_of, fields_of}
use Rattle.answer_text.specs.declared.answer_line.AnswerLine.{AnswerLine}
use Rattle.answer_text.specs.declared.answer_line.AnswerLine.TheVariants as line_kind
use Rattle.answer_text.specs.Answer.{answer_fault_of, Said, Drafted, TakesAnswerLine, TakesAnswerAs, line_of, answer_line_of, answer_line_fault, and_said, or_value, value_said, flow_said, potential_said, shortage_said, cut_node_said, read_value, read_flow, read_potential, read_shortage, read_cut_node}
use Rattle.answer_text.proofs.AnswerLineLemmas.{read_value-ok, read_shortage-ok}

-- what one line more says, by its designator
abbrev said_by : Option AnswerLine → Said → List Word → Said
said_by (Some line_kind.Value) said fields = record said { value = or_value said.value (value_said fields ∷ []) }
said_by (Some line_kind.Flow) said fields = record said { flows = said.flows ++ flow_said fields ∷ [] }
said_by (Some line_kind.Potential) said fields = record said { potentials = said.potentials ++ potential_said fields ∷ [] }
said_by (Some line_kind.Shortage) said fields = record said { shortage = or_value said.shortage (shortage_said fields ∷ []) }
said_by (Some line_kind.CutNode) said fields = record said { cut = said.cut ++ cut_node_said fields ∷ [] }
said_by (Some line_kind.Comment) said fields = said
said_by (Some line_kind.Unknown) said fields = said
said_by None said fields = said

or_value-nil : (value : Option ℤ) → or_value value [] ≡ value
or_value-nil None = refl
or_value-nil (Some value) = refl

and_said-by : (said : Said) (line : Line) (first : Option AnswerLine) → answer_line_of (words_of line) ≡ first → and_said said line ≡ said_by first said (fields_of (words_of line))
unfolding and_said
and_said-by said line None e = rw (e, or_value-nil said.value, append-nil said.flows, append-nil said.potentials, or_value-nil said.shortage, append-nil said.cut) refl
and_said-by said line (Some line_kind.Comment) e = rw (e, or_value-nil said.value, append-nil said.flows, append-nil said.potentials, or_value-nil said.shortage, append-nil said.cut) refl
and_said-by said line (Some line_kind.Unknown) e = rw (e, or_value-nil said.value, append-nil said.flows, append-nil said.potentials, or_value-nil said.shortage, append-nil said.cut) refl
and_said-by said line (Some line_kind.Value) e = rw (e, append-nil said.flows, append-nil said.potentials, or_value-nil said.shortage, append-nil said.cut) refl
and_said-by said line (Some line_kind.Flow) e = rw (e, or_value-nil said.value, append-nil said.potentials, or_value-nil said.shortage, append-nil said.cut) refl
and_said-by said line (Some line_kind.Potential) e = rw (e, or_value-nil said.value, append-nil said.flows, or_value-nil said.shortage, append-nil said.cut) refl
and_said-by said line (Some line_kind.Shortage) e = rw (e, or_value-nil said.value, append-nil said.flows, append-nil said.potentials, append-nil said.cut) refl
and_said-by said line (Some line_kind.CutNode) e = rw (e, or_value-nil said.value, append-nil said.flows, append-nil said.potentials, or_value-nil said.shortage) refl

abbrev with_said : Drafted → Said → Drafted
with_said draft said = record { nodes = draft.nodes; arcs = draft.arcs; said = said }

same : (old : Drafted) (line : Line) (first : Option AnswerLine) → answer_line_of (words_of line) ≡ first → said_by first old.said (fields_of (words_of line)) ≡ old.said → old ≡ with_said old (and_said old.said line)
same old line first e unchanged = ap (λ (s : Said). with_said old s) (sym (and_said-by old.said line first e ∙ unchanged))

pub taken_blank : (old : Drafted) (line : Line) → words_of line ≡ [] → (answer_line_fault old.nodes old.arcs old.said line ≡ None) × (old ≡ with_said old (and_said old.said line))
taken_blank old line e = (rw e refl, same old line None (rw e refl) refl)

pub taken_comment : (old : Drafted) (line : Line) (word : Word) (fields : List Word) → words_of line ≡ word ∷ fields → line_of word ≡ line_kind.Comment → (answer_line_fault old.nodes old.arcs old.said line ≡ None) × (old ≡ with_said old (and_said old.said line))
taken_comment old line word fields e d = (rw (e, d) refl, same old line (Some line_kind.Comment) (rw (e, d) refl) refl)

none_before : (read : Result ℤ AnswerFault) (said : Said) (fields : List Word) → read_value said fields ≡ read → answer_fault_of read ≡ None → said.value ≡ None
none_before (Ok value) said fields e none = (read_value-ok said fields value e).first
none_before (Err f) said fields e none = absurd cc

value_by : (result : Result (Unit {0}) LineError) (old new : Drafted) (fields : List Word) → TakesAnswerAs result (answer_fault_of (read_value old.said fields)) old (record old.said { value = Some (value_said fields) }) new
    → TakesAnswerAs result (answer_fault_of (read_value old.said fields)) old (record old.said { value = or_value old.said.value (value_said fields ∷ []) }) new
value_by (Ok x) old new fields taken =
    let none = none_before (read_value old.said fields) old.said fields refl taken.0 in
    (taken.0, taken.1 ∙ rw none refl)
value_by (Err e) old new fields taken = taken

none_short_before : (read : Result ℤ AnswerFault) (said : Said) (fields : List Word) → read_shortage said fields ≡ read → answer_fault_of read ≡ None → said.shortage ≡ None
none_short_before (Ok shortage) said fields e none = (read_shortage-ok said fields shortage e).first
none_short_before (Err f) said fields e none = absurd cc

shortage_by : (result : Result (Unit {0}) LineError) (old new : Drafted) (fields : List Word) → TakesAnswerAs result (answer_fault_of (read_shortage old.said fields)) old (record old.said { shortage = Some (shortage_said fields) }) new
    → TakesAnswerAs result (answer_fault_of (read_shortage old.said fields)) old (record old.said { shortage = or_value old.said.shortage (shortage_said fields ∷ []) }) new
shortage_by (Ok x) old new fields taken =
    let none = none_short_before (read_shortage old.said fields) old.said fields refl taken.0 in
    (taken.0, taken.1 ∙ rw none refl)
shortage_by (Err e) old new fields taken = taken

module _ (result : Result (Unit {0}) LineError) (old new : Drafted) (line : Line) (word : Word) (fields : List Word) (words : words_of line ≡ word ∷ fields) where
  pub taken_value : line_of word ≡ line_kind.Value → TakesAnswerAs result (answer_fault_of (read_value old.said fields)) old (record old.said { value = Some (value_said fields) }) new → TakesAnswerLine result line old new
  taken_value d taken =
      let fault_is : answer_line_fault old.nodes old.arcs old.said line ≡ answer_fault_of (read_value old.said fields) = rw (words, d) refl in
      let said_is : and_said old.said line ≡ record old.said { value = or_value old.said.value (value_said fields ∷ []) } = and_said-by old.said line (Some line_kind.Value) (rw (words, d) refl) ∙ rw words refl in
      rw (fault_is, said_is) (value_by result old new fields taken)

  pub taken_flow : line_of word ≡ line_kind.Flow → TakesAnswerAs result (answer_fault_of (read_flow old.nodes old.arcs old.said fields)) old (record old.said { flows = old.said.flows ++ flow_said fields ∷ [] }) new → TakesAnswerLine result line old new
  taken_flow d taken =
      let fault_is : answer_line_fault old.nodes old.arcs old.said line ≡ answer_fault_of (read_flow old.nodes old.arcs old.said fields) = rw (words, d) refl in
      let said_is : and_said old.said line ≡ record old.said { flows = old.said.flows ++ flow_said fields ∷ [] } = and_said-by old.said line (Some line_kind.Flow) (rw (words, d) refl) ∙ rw words refl in
      rw (fault_is, said_is) taken

  pub taken_potential : line_of word ≡ line_kind.Potential → TakesAnswerAs result (answer_fault_of (read_potential old.nodes old.arcs old.said fields)) old (record old.said { potentials = old.said.potentials ++ potential_said fields ∷ [] }) new → TakesAnswerLine result line old new
  taken_potential d taken =
      let fault_is : answer_line_fault old.nodes old.arcs old.said line ≡ answer_fault_of (read_potential old.nodes old.arcs old.said fields) = rw (words, d) refl in
      let said_is : and_said old.said line ≡ record old.said { potentials = old.said.potentials ++ potential_said fields ∷ [] } = and_said-by old.said line (Some line_kind.Potential) (rw (words, d) refl) ∙ rw words refl in
      rw (fault_is, said_is) taken

  pub taken_shortage : line_of word ≡ line_kind.Shortage → TakesAnswerAs result (answer_fault_of (read_shortage old.said fields)) old (record old.said { shortage = Some (shortage_said fields) }) new → TakesAnswerLine result line old new
  taken_shortage d taken =
      let fault_is : answer_line_fault old.nodes old.arcs old.said line ≡ answer_fault_of (read_shortage old.said fields) = rw (words, d) refl in
      let said_is : and_said old.said line ≡ record old.said { shortage = or_value old.said.shortage (shortage_said fields ∷ []) } = and_said-by old.said line (Some line_kind.Shortage) (rw (words, d) refl) ∙ rw words refl in
      rw (fault_is, said_is) (shortage_by result old new fields taken)

  pub taken_cut_node : line_of word ≡ line_kind.CutNode → TakesAnswerAs result (answer_fault_of (read_cut_node old.nodes old.said fields)) old (record old.said { cut = old.said.cut ++ cut_node_said fields ∷ [] }) new → TakesAnswerLine result line old new
  taken_cut_node d taken =
      let fault_is : answer_line_fault old.nodes old.arcs old.said line ≡ answer_fault_of (read_cut_node old.nodes old.said fields) = rw (words, d) refl in
      let said_is : and_said old.said line ≡ record old.said { cut = old.said.cut ++ cut_node_said fields ∷ [] } = and_said-by old.said line (Some line_kind.CutNode) (rw (words, d) refl) ∙ rw words refl in
      rw (fault_is, said_is) taken
