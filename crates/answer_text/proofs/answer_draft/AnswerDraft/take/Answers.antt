use Rattle.std.proofs.Common.{sym, ◌∙◌, rules}
use Rattle.answer_text.proofs.AnswerTakeLemmas as law
use Rattle.answer_text.proofs.answer_draft.AnswerDraft.take.Goals as goal

pub returns-in_default : goal.returns-in_default
returns-in_default c = law.taken_blank c.args.self.now c.args.line.now (sym c.new-words.ensures ∙ c.in_default.ensures.0)

pub returns-in-Comment : goal.returns-in-Comment
returns-in-Comment c = law.taken_comment c.args.self.now c.args.line.now c.in-Some.first c.next.new.self (sym c.new-words.ensures ∙ c.in-Some.ensures) (rw c.bytes.ensures at (sym c.of.ensures ∙ c.in-Comment.is))

pub returns-in-Value : goal.returns-in-Value
returns-in-Value c = law.taken_value c.take_value.result c.args.self.now c.take_value.new.self c.args.line.now c.in-Some.first c.next.new.self (sym c.new-words.ensures ∙ c.in-Some.ensures) (rw c.bytes.ensures at (sym c.of.ensures ∙ c.in-Value.is)) c.take_value.ensures

pub returns-in-Flow : goal.returns-in-Flow
returns-in-Flow c = law.taken_flow c.take_flow.result c.args.self.now c.take_flow.new.self c.args.line.now c.in-Some.first c.next.new.self (sym c.new-words.ensures ∙ c.in-Some.ensures) (rw c.bytes.ensures at (sym c.of.ensures ∙ c.in-Flow.is)) c.take_flow.ensures

pub returns-in-Potential : goal.returns-in-Potential
returns-in-Potential c = law.taken_potential c.take_potential.result c.args.self.now c.take_potential.new.self c.args.line.now c.in-Some.first c.next.new.self (sym c.new-words.ensures ∙ c.in-Some.ensures) (rw c.bytes.ensures at (sym c.of.ensures ∙ c.in-Potential.is)) c.take_potential.ensures

pub returns-in-Shortage : goal.returns-in-Shortage
returns-in-Shortage c = law.taken_shortage c.take_shortage.result c.args.self.now c.take_shortage.new.self c.args.line.now c.in-Some.first c.next.new.self (sym c.new-words.ensures ∙ c.in-Some.ensures) (rw c.bytes.ensures at (sym c.of.ensures ∙ c.in-Shortage.is)) c.take_shortage.ensures

pub returns-in-CutNode : goal.returns-in-CutNode
returns-in-CutNode c = law.taken_cut_node c.take_cut_node.result c.args.self.now c.take_cut_node.new.self c.args.line.now c.in-Some.first c.next.new.self (sym c.new-words.ensures ∙ c.in-Some.ensures) (rw c.bytes.ensures at (sym c.of.ensures ∙ c.in-CutNode.is)) c.take_cut_node.ensures

pub returns-in-Unknown : goal.returns-in-Unknown
returns-in-Unknown c = search rules
