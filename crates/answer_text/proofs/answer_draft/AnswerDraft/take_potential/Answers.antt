use Rattle.std.proofs.Common.{◌≡◌, refl, sym, ap, rules}
use Rattle.std.proofs.lemmas.Int.{to_z-of_z}
use mir.Syntax.{w64}
use mir.Val.{SFits, to_z, of_z}
use Rattle.answer_text.specs.Answer.{answer_fault_of}
use Rattle.answer_text.proofs.AnswerLineLemmas.{read_potential-ok}
use Rattle.answer_text.proofs.answer_draft.AnswerDraft.take_potential.Goals as goal

pub returns : goal.returns
returns c =
    let potential = c.in_ok-potential.potential in
    let read = read_potential-ok c.args.self.now.nodes c.args.self.now.arcs c.args.self.now.said c.args.fields potential (sym c.in_ok-potential.ensures) in
    let fits : SFits w64 potential = search rules in
    let kept : to_z w64 (of_z w64 potential) ≡ potential = to_z-of_z w64 potential fits in
    (ap answer_fault_of (sym c.in_ok-potential.ensures), rw (← c.self.view_is, c.in_ok-push.ensures.items, read, kept) refl)
