use Rattle.std.proofs.Common.{◌≡◌, refl, sym, ap, rules}
use Rattle.std.proofs.lemmas.Int.{to_z-of_z}
use mir.Syntax.{w128}
use mir.Val.{SFits, to_z, of_z}
use Rattle.answer_text.specs.Answer.{answer_fault_of}
use Rattle.answer_text.proofs.AnswerLineLemmas.{read_value-ok}
use Rattle.answer_text.proofs.answer_draft.AnswerDraft.take_value.Goals as goal

pub returns : goal.returns
returns c =
    let value = c.in_ok-value.value in
    let read = read_value-ok c.args.self.now.said c.args.fields value (sym c.in_ok-value.ensures) in
    let fits : SFits w128 value = search rules in
    let kept : to_z w128 (of_z w128 value) ≡ value = to_z-of_z w128 value fits in
    (ap answer_fault_of (sym c.in_ok-value.ensures), rw (← c.self.view_is, read.value_is, kept) refl)
