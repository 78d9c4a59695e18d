use Rattle.std.proofs.Common.{◌∙◌, rules, w32, ap, not, sym}
use mir.Val.{SFits}
use Rattle.std.proofs.Math.Facts.{to_z-of_z}
use Rattle.c_calls.proofs.ListLemmas.{breach, given_there, none_legal}
use Rattle.c_calls.proofs.lists.give_cut.Goals as goal

pub returns-clause-none_legal : goal.returns-clause-none_legal
returns-clause-none_legal c same =
    let fits : SFits w32 c.give.result = search rules in
    let zero = sym (to_z-of_z fits) ∙ same in
    let there = given_there _ _ _ (sym c.give.ensures.status ∙ zero) in
    none_legal c.args.session.now.moments.present c.is_feasible.ensures.answered (ap not (sym c.is_feasible.ensures.value) ∙ there)

pub returns-clause-breach : goal.returns-clause-breach
returns-clause-breach c same shortage is =
    let fits : SFits w32 c.give.result = search rules in
    let zero = sym (to_z-of_z fits) ∙ same in
    rw (c.give.ensures.copied zero ∙ c.cut.ensures.value) (breach c.args.session.now.moments.present shortage c.is_feasible.ensures.answered is)

pub returns-clause-chosen : goal.returns-clause-chosen
returns-clause-chosen c same =
    let fits : SFits w32 c.give.result = search rules in
    let zero = sym (to_z-of_z fits) ∙ same in
    rw (c.give.ensures.copied zero ∙ c.cut.ensures.value) c.is_feasible.ensures.answered.chosen
