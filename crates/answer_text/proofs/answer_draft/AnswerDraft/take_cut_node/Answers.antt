use Rattle.std.proofs.Common.{ℕ, refl, sym, ap, subst}
use Rattle.std.proofs.lemmas.List.Elements.{All-push}
use Rattle.answer_text.specs.Answer.{answer_fault_of}
use Rattle.dimacs_lines.specs.Fields.{IsNode}
use Rattle.answer_text.specs.Answer.{Drafted}
use Rattle.answer_text.proofs.AnswerLineLemmas.{read_cut_node-ok}
use Rattle.answer_text.proofs.answer_draft.AnswerDraft.take_cut_node.Goals as goal

pub invariant_of-self-2 : goal.invariant_of-self-2
invariant_of-self-2 c =
    let read = read_cut_node-ok c.args.self.now.nodes c.args.self.now.said c.args.fields c.in_ok-node.node (sym c.in_ok-node.ensures) in
    let is_node : IsNode c.self.inside.nodes c.in_ok-node.node =
    subst (λ (n : ℕ). IsNode n c.in_ok-node.node) (sym (ap (λ (d : Drafted). d.nodes) c.self.view_is)) read.node
    in
    (c.self.invariant.0, rw c.in_ok-push.ensures.items (All-push (IsNode c.self.inside.nodes) c.self.inside.cut.items c.in_ok-node.node c.self.invariant.1 is_node))

pub returns : goal.returns
returns c =
    let read = read_cut_node-ok c.args.self.now.nodes c.args.self.now.said c.args.fields c.in_ok-node.node (sym c.in_ok-node.ensures) in
    (ap answer_fault_of (sym c.in_ok-node.ensures), rw (← c.self.view_is, c.in_ok-push.ensures.items, read.node_is) refl)
