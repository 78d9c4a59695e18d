use Rattle.std.proofs.Common.{◌∙◌, rules, w32, sym}
use mir.Val.{SFits}
use Rattle.std.proofs.Math.Facts.{to_z-of_z}
use Rattle.c_calls.proofs.ListLemmas.{best_flow, given_there}
use Rattle.c_calls.proofs.lists.give_flow.Goals as goal

pub returns-clause-best : goal.returns-clause-best
returns-clause-best c same =
    let fits : SFits w32 c.give.result = search rules in
    let zero = sym (to_z-of_z fits) ∙ same in
    let there = given_there _ _ _ (sym c.give.ensures.status ∙ zero) in
    let m = c.args.session.now.moments.present in
    rw (c.give.ensures.copied zero ∙ c.flow.ensures.value) (best_flow m c.is_feasible.ensures.answered (sym c.is_feasible.ensures.value ∙ there))
