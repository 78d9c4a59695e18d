use Rattle.std.proofs.Common.{◌≡◌, refl, sym, ap, rules}
use Rattle.std.proofs.lemmas.Int.{to_z-of_z}
use mir.Syntax.{w64}
use mir.Val.{SFits, to_z, of_z}
use Rattle.answer_text.specs.Answer.{answer_fault_of}
use Rattle.answer_text.proofs.AnswerLineLemmas.{read_shortage-ok}
use Rattle.answer_text.proofs.answer_draft.AnswerDraft.take_shortage.Goals as goal

pub returns : goal.returns
returns c =
    let shortage = c.in_ok-shortage.shortage in
    let read = read_shortage-ok c.args.self.now.said c.args.fields shortage (sym c.in_ok-shortage.ensures) in
    let fits : SFits w64 shortage = search rules in
    let kept : to_z w64 (of_z w64 shortage) ≡ shortage = to_z-of_z w64 shortage fits in
    (ap answer_fault_of (sym c.in_ok-shortage.ensures), rw (← c.self.view_is, read.shortage_is, kept) refl)
