use Rattle.std.proofs.Common.{ℕ, refl, sym, ap, subst}
use Rattle.std.proofs.lemmas.List.Elements.{All-push}
use Rattle.answer_text.specs.Answer.{answer_fault_of}
use Rattle.answer_text.specs.Answer.{Drafted, JoinsNodes}
use Rattle.answer_text.proofs.AnswerLineLemmas.{read_flow-ok}
use Rattle.answer_text.proofs.answer_draft.AnswerDraft.take_flow.Goals as goal

pub invariant_of-self-2 : goal.invariant_of-self-2
invariant_of-self-2 c =
    let read = read_flow-ok c.args.self.now.nodes c.args.self.now.arcs c.args.self.now.said c.args.fields c.in_ok-flow.flow (sym c.in_ok-flow.ensures) in
    let joins : JoinsNodes c.self.inside.nodes c.in_ok-flow.flow =
    subst (λ (n : ℕ). JoinsNodes n c.in_ok-flow.flow) (sym (ap (λ (d : Drafted). d.nodes) c.self.view_is)) (read.tail, read.head)
    in
    (rw c.in_ok-push.ensures.items (All-push (JoinsNodes c.self.inside.nodes) c.self.inside.flows.items c.in_ok-flow.flow c.self.invariant.0 joins), c.self.invariant.1)

pub returns : goal.returns
returns c =
    let read = read_flow-ok c.args.self.now.nodes c.args.self.now.arcs c.args.self.now.said c.args.fields c.in_ok-flow.flow (sym c.in_ok-flow.ensures) in
    (ap answer_fault_of (sym c.in_ok-flow.ensures), rw (← c.self.view_is, c.in_ok-push.ensures.items, read.line_is) refl)
