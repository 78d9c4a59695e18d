-- A group that stands open over a step.
use Rattle.std.proofs.Common.{◌≡◌, List, Option, Some, IfSome, sym, ap, ◌∙◌}
use Rattle.std.specs.Option.{option_map}
use Rattle.dimacs_lines.specs.Lines.{Line}
use Rattle.dimacs_text.specs.Group.{gathered}
use Rattle.dimacs_text.specs.declared.problem.Kind.{Kind}
use Rattle.session.specs.Session.{present_kind}
use Rattle.session.specs.Step.{state_of}
use Rattle.session.specs.Turns.{gathered_in}
use Rattle.mcf_c.specs.declared.plan.Plan.{Plan}
use Rattle.mcf_c.specs.Handles.{group_in}

-- its lines have given the same, since the kind stays
lines_stay : (old new : Plan) (opened : Option (List Line)) → present_kind new.session.moments ≡ present_kind old.session.moments → new.group ≡ old.group
    → old.group ≡ gathered_in (state_of old.session) opened → new.group ≡ gathered_in (state_of new.session) opened
lines_stay old new opened kind group holds = group ∙ holds ∙ ap (λ (k : Kind). option_map (gathered k 0) opened) (sym kind)

pub holds_on : (old new : Option Plan) (before after : Plan) (opened : Option (List Line)) → old ≡ Some before → new ≡ Some after
    → present_kind after.session.moments ≡ present_kind before.session.moments → after.group ≡ before.group
    → IfSome (option_map (λ plan. state_of plan.session) old) (λ s. group_in old ≡ gathered_in s opened)
    → IfSome (option_map (λ plan. state_of plan.session) new) (λ s. group_in new ≡ gathered_in s opened)
holds_on old new before after opened is_old is_new kind group holds = rw is_new (lines_stay before after opened kind group (rw is_old at holds))
