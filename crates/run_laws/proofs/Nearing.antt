-- Accepted edits and groups lead from one answered moment to the next.
use Rattle.std.proofs.Common.{◌≡◌, ℕ, ℤ, pos, List, [], ◌∷◌, Ok, Err, Result, Option, Some, None, inl, inr, ap, subst, ◌∙◌}
use Rattle.std.specs.Prelude.{⊤, ◌⊎◌, MatchResult}
use Rattle.dimacs_text.specs.declared.command_fault.CommandFault.{CommandFault}
use Rattle.dimacs_text.specs.CommandFault.{number_of}
use Rattle.dimacs_text.specs.declared.command.Command.{Command}
use Rattle.dimacs_text.specs.declared.command.Command.TheVariants as commands
use Rattle.dimacs_text.specs.declared.command.Edit.{Edit}
use Rattle.dimacs_text.specs.declared.problem.Kind.{Kind}
use Rattle.dimacs_text.specs.Command.{command}
use Rattle.dimacs_text.specs.Group.{Gathered, gathered}
use Rattle.dimacs_text.specs.Turns.{Turn, OfLine, OfGroup}
use Rattle.network.specs.Edited.{edited, edited_all, units_all}
use Rattle.network.specs.Instance.{Instance, at_node, kind_of}
use Rattle.network.proofs.EditedAll.{edited_one}
use Rattle.network.proofs.Following.{frame_all}
use Rattle.flow_solver.specs.Moment.{Moment}
use Rattle.flow_solver.specs.declared.verdict.Verdict.TheVariants.{Best}
use Rattle.flow_solver.specs.Answer.{IsAnswered}
use Rattle.plan_laws.specs.Stability.{IsLeftOut, LeadThrough, MovesWithin, edits_of}
use Rattle.plan_laws.proofs.StabilityLemmas.{as_group as alone}
use Rattle.plan_laws.proofs.RunLemmas.{plans_run}
use Rattle.session.specs.declared.refusal.StepRefusal.TheVariants as refusal
use Rattle.session.specs.Refusal.{number_of as step_number}
use Rattle.session.specs.Session.{AreEdited, IsEdited}
use Rattle.session.specs.Step.{Reply, SessionState, IsApplied, IsRefused, StepBy, StepOfEdits, TurnStep}
use Rattle.engines.specs.Run.{Run}
use Rattle.run_laws.specs.Near.{edits_of_command, edits_of_turn, groups_of}
use Rattle.run_laws.specs.Undone.{AllTurns, IsEditCommand, MakesEdits, NoneRefuses}
use Rattle.run_laws.proofs.Undoing.{Accepts, accepts_by}

-- one edit is a group of one
as_group : (edit : Edit) (old new : Moment) → IsEdited edit old new → AreEdited (edit ∷ []) old new
as_group edit old new is = record {
  instance = edited_one old.instance edit ∙ is.instance;
  answered = is.answered;
  pushes = is.pushes;
  led = alone old.instance new.instance edit (at_node old.potentials) old.flow new.flow is.pushes is.led;
}

edit_led : (tested : Result Instance ℕ) (edit : Edit) (old new : SessionState) (reply : Reply) → Accepts reply
    → MatchResult tested (λ _. IsApplied edit old reply new ⊎ IsRefused (step_number refusal.Memory) old reply new) (λ number. IsRefused number old reply new) → AreEdited (edit ∷ []) old.moments.present new.moments.present
edit_led (Ok I) edit old new reply accepts (inl applied) = as_group edit old.moments.present new.moments.present applied.edited_to
edit_led (Ok I) edit old new reply accepts (inr refused) = absurd (accepts (step_number refusal.Memory) refused.reply_is)
edit_led (Err number) edit old new reply accepts refused = absurd (accepts number refused.reply_is)

command_led : (c : Command) (old new : SessionState) (reply : Reply) → IsEditCommand c → Accepts reply → StepBy c old reply new → AreEdited (edits_of_command (Ok c)) old.moments.present new.moments.present
command_led (commands.Edit edit) old new reply is accepts step = edit_led (edited old.moments.present.instance edit) edit old new reply accepts step
command_led other old new reply is accepts step = absurd is

line_led : (r : Result Command ℕ) (old new : SessionState) (reply : Reply) → MatchResult r IsEditCommand (λ number. ⊤) → Accepts reply
    → MatchResult r (λ c. StepBy c old reply new) (λ number. IsRefused number old reply new) → AreEdited (edits_of_command r) old.moments.present new.moments.present
line_led (Ok c) old new reply is accepts step = command_led c old new reply is accepts step
line_led (Err number) old new reply is accepts refused = absurd (accepts number refused.reply_is)

edits_led : (fault : Option CommandFault) (edits : List Edit) (old new : SessionState) (reply : Reply) → Accepts reply → StepOfEdits fault edits old reply new → AreEdited edits old.moments.present new.moments.present
edits_led (Some fault) edits old new reply accepts refused = absurd (accepts (number_of fault) refused.reply_is)
edits_led None edits old new reply accepts (inl applied) = applied.edited_to
edits_led None edits old new reply accepts (inr refused) = absurd (accepts (step_number refusal.Memory) refused.reply_is)

group_led : (tested : Result Instance ℕ) (group : Gathered) (old new : SessionState) (reply : Reply) → Accepts reply
    → MatchResult tested (λ _. StepOfEdits group.fault group.edits old reply new) (λ number. IsRefused number old reply new) → AreEdited group.edits old.moments.present new.moments.present
group_led (Ok I) group old new reply accepts step = edits_led group.fault group.edits old new reply accepts step
group_led (Err number) group old new reply accepts refused = absurd (accepts number refused.reply_is)

turn_led : (turn : Turn) (old new : SessionState) (reply : Reply) → MakesEdits turn → Accepts reply → TurnStep old turn reply new
    → AreEdited (edits_of_turn (kind_of old.moments.present.instance.demand) turn) old.moments.present new.moments.present
turn_led (OfLine line) old new reply is accepts step =
    let kind = kind_of old.moments.present.instance.demand in line_led (command kind line) old new reply (is kind) accepts step
turn_led (OfGroup lines) old new reply is accepts step =
    let group = gathered (kind_of old.moments.present.instance.demand) 0 lines in group_led (edited_all old.moments.present.instance group.edits) group old new reply accepts step

-- a run of accepted edits and groups leads through them
pub run_leads : (old new : SessionState) (turns : List Turn) (texts : List (List ℕ)) → AllTurns MakesEdits turns → NoneRefuses texts → Run old turns texts new
    → LeadThrough (groups_of (kind_of old.moments.present.instance.demand) turns) old.moments.present new.moments.present
run_leads old new [] [] are none run = ap (λ (s : SessionState). s.moments.present) run
run_leads old new [] (text ∷ texts) are none run = absurd run
run_leads old new (turn ∷ turns) [] are none run = absurd run
run_leads old new (turn ∷ turns) (text ∷ texts) are none run =
    let mid = run.0 in
    let led = turn_led turn old mid run.1 are.0 (accepts_by text run.1 mid.moments.present run.3 none.0) run.2 in
    let kind = (frame_all old.moments.present.instance (edits_of_turn (kind_of old.moments.present.instance.demand) turn) mid.moments.present.instance led.instance).kind in
    let rest = run_leads mid new turns texts are.1 none.1 run.4 in (
      mid.moments.present,
      led.pushes,
      led.answered,
      led.led,
      subst (λ (t : Kind). LeadThrough (groups_of t turns) mid.moments.present new.moments.present) kind rest,
    )

pub run_moves_little : (old new : SessionState) (changes : List Turn) (told : List (List ℕ)) (k : ℕ) (worth : ℤ)
    → IsAnswered old.moments.present → old.moments.present.verdict ≡ Best worth → AllTurns MakesEdits changes → NoneRefuses told → Run old changes told new
    → IsLeftOut old.moments.present.instance (edits_of (groups_of (kind_of old.moments.present.instance.demand) changes)) k
    → MovesWithin (pos (units_all old.moments.present.instance (edits_of (groups_of (kind_of old.moments.present.instance.demand) changes)))) k old.moments.present new.moments.present
run_moves_little old new changes told k worth answered best are none run left_out =
    plans_run old.moments.present new.moments.present (groups_of (kind_of old.moments.present.instance.demand) changes) k worth answered best (run_leads old new changes told are none run) left_out
