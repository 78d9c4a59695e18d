use Rattle.std.proofs.Common.{◌∙◌, Option, rules, subst, sym, w32}
use mir.Val.{SFits}
use Rattle.std.proofs.Math.Facts.{to_z-of_z}
use Rattle.std.specs.Option.{IfSome, option_map}
use Rattle.session.specs.Step.{state_of}
use Rattle.c_calls.specs.Library.{IsBreachOf}
use Rattle.mcf_c.specs.declared.plan.Plan.{Plan}
use Rattle.mcf_c.proofs.mcf_cut.Goals as goal

pub returns-clause-breach : goal.returns-clause-breach
returns-clause-breach c same =
    let fits : SFits w32 c.give_cut-status.result = search rules in
    let zero = sym (to_z-of_z fits) ∙ same in
    let cut = c.give_cut-status.new.room in
    let told = subst (λ (plan : Plan). IsBreachOf cut plan.session.moments.present) c.deref.ensures (c.give_cut-status.ensures.breach zero) in
    subst (λ (plan : Option Plan). IfSome (option_map (λ held. state_of held.session) plan) (λ s. IsBreachOf cut s.moments.present)) c.in-Some.ensures.taken told

pub returns-clause-room : goal.returns-clause-room
returns-clause-room c = search rules

pub returns-clause-copied : goal.returns-clause-copied
returns-clause-copied c = search rules

pub returns-clause-chosen : goal.returns-clause-chosen
returns-clause-chosen c = search rules
