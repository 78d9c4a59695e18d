-- As many undos as accepted changes, or redos as undos, lead back to the moment that stood before, and it shows the same.
use Rattle.std.proofs.Common.{◌≡◌, ◌≢◌, ℕ, zero, suc, ◌+◌, ◌<◌, ◌≤◌, Bool, true, false, List, [], ◌∷◌, ◌++◌, length, Ok, Err, Result, Option, Some, None, inl, inr, length-append, refl, sym, ap, subst, ◌∙◌, arith}
use Rattle.std.specs.Prelude.{⊤, ◌⊎◌, MatchResult}
use Rattle.dimacs_io.specs.Line.{refusal_line}
use Rattle.dimacs_text.specs.declared.command_fault.CommandFault.{CommandFault}
use Rattle.dimacs_text.specs.CommandFault.{number_of}
use Rattle.dimacs_text.specs.declared.command.Command.{Command}
use Rattle.dimacs_text.specs.declared.command.Command.TheVariants as commands
use Rattle.dimacs_text.specs.declared.command.Edit.{Edit}
use Rattle.dimacs_text.specs.Command.{command}
use Rattle.dimacs_text.specs.Group.{Gathered, gathered}
use Rattle.dimacs_text.specs.Turns.{Turn, OfLine, OfGroup}
use Rattle.network.specs.Edited.{edited, edited_all}
use Rattle.network.specs.Instance.{Instance, kind_of}
use Rattle.flow_solver.specs.Moment.{Moment}
use Rattle.history.specs.Boards.{Timeline, Advances, StepsBack, StepsForward}
use Rattle.history.specs.Repeated.{Repeated}
use Rattle.history.proofs.Repeating.{new_steps_undone, steps_redone}
use Rattle.session.specs.declared.refusal.StepRefusal.TheVariants as refusal
use Rattle.session.specs.Refusal.{number_of as step_number}
use Rattle.session.specs.Step.{Reply, Refuses, SessionState, IsRefused, IsShown, IsApplied, StepBy, StepOfEdits, TurnStep}
use Rattle.engines.specs.Printing.{reply_text, solution}
use Rattle.engines.specs.Run.{Run}
use Rattle.run_laws.specs.Undone.{AllTurns, IsEditCommand, IsRedo, IsShow, IsUndo, MakesEdits, NoneRefuses, shown_by}

-- ---- runs over one list of turns and then another

abbrev pub Splits : SessionState → List Turn → List (List ℕ) → List Turn → List (List ℕ) → SessionState → Type 0
Splits old turns texts more others new = (mid : SessionState) × Run old turns texts mid × Run mid more others new

pub split : (old new : SessionState) (turns more : List Turn) (texts others : List (List ℕ)) → length texts ≡ length turns → Run old (turns ++ more) (texts ++ others) new
    → Splits old turns texts more others new
split old new [] more [] others count run = (old, refl, run)
split old new [] more (text ∷ texts) others count run = absurd (omega (arith, count))
split old new (turn ∷ turns) more [] others count run = absurd (omega (arith, count))
split old new (turn ∷ turns) more (text ∷ texts) others count run =
    let rest = split run.0 new turns more texts others (omega (arith, count)) run.4 in
    (rest.0, (run.0, run.1, run.2, run.3, rest.1), rest.2)

-- ---- accepted changes

abbrev pub Accepts : Reply → Type 0
Accepts reply = (number : ℕ) → reply ≢ Refuses number

edit_step : (tested : Result Instance ℕ) (edit : Edit) (old new : SessionState) (reply : Reply) → Accepts reply
    → MatchResult tested (λ _. IsApplied edit old reply new ⊎ IsRefused (step_number refusal.Memory) old reply new) (λ number. IsRefused number old reply new) → Advances old.moments new.moments
edit_step (Ok I) edit old new reply accepts (inl applied) = applied.advances
edit_step (Ok I) edit old new reply accepts (inr refused) = absurd (accepts (step_number refusal.Memory) refused.reply_is)
edit_step (Err number) edit old new reply accepts refused = absurd (accepts number refused.reply_is)

command_step : (c : Command) (old new : SessionState) (reply : Reply) → IsEditCommand c → Accepts reply → StepBy c old reply new → Advances old.moments new.moments
command_step (commands.Edit edit) old new reply is accepts step = edit_step (edited old.moments.present.instance edit) edit old new reply accepts step
command_step other old new reply is accepts step = absurd is

line_step : (r : Result Command ℕ) (old new : SessionState) (reply : Reply) → MatchResult r IsEditCommand (λ number. ⊤) → Accepts reply
    → MatchResult r (λ c. StepBy c old reply new) (λ number. IsRefused number old reply new) → Advances old.moments new.moments
line_step (Ok c) old new reply is accepts step = command_step c old new reply is accepts step
line_step (Err number) old new reply is accepts refused = absurd (accepts number refused.reply_is)

edits_step : (fault : Option CommandFault) (edits : List Edit) (old new : SessionState) (reply : Reply) → Accepts reply → StepOfEdits fault edits old reply new → Advances old.moments new.moments
edits_step (Some fault) edits old new reply accepts refused = absurd (accepts (number_of fault) refused.reply_is)
edits_step None edits old new reply accepts (inl applied) = applied.advances
edits_step None edits old new reply accepts (inr refused) = absurd (accepts (step_number refusal.Memory) refused.reply_is)

group_step : (tested : Result Instance ℕ) (group : Gathered) (old new : SessionState) (reply : Reply) → Accepts reply
    → MatchResult tested (λ _. StepOfEdits group.fault group.edits old reply new) (λ number. IsRefused number old reply new) → Advances old.moments new.moments
group_step (Ok I) group old new reply accepts step = edits_step group.fault group.edits old new reply accepts step
group_step (Err number) group old new reply accepts refused = absurd (accepts number refused.reply_is)

change_step : (turn : Turn) (old new : SessionState) (reply : Reply) → MakesEdits turn → Accepts reply → TurnStep old turn reply new → Advances old.moments new.moments
change_step (OfLine line) old new reply is accepts step =
    let kind = kind_of old.moments.present.instance.demand in line_step (command kind line) old new reply (is kind) accepts step
change_step (OfGroup lines) old new reply is accepts step =
    let group = gathered (kind_of old.moments.present.instance.demand) 0 lines in group_step (edited_all old.moments.present.instance group.edits) group old new reply accepts step

pub accepts_by : (text : List ℕ) (reply : Reply) (m : Moment) → text ≡ reply_text reply m → ((number : ℕ) → text ≢ refusal_line number) → Accepts reply
accepts_by text reply m is never number e = never number (is ∙ ap (λ (r : Reply). reply_text r m) e)

-- turns of which none is refused take as many steps
module _ (Is : Turn → Type 0) (Steps : Timeline Moment → Timeline Moment → Type 0)
    (steps : (turn : Turn) (old new : SessionState) (reply : Reply) → Is turn → Accepts reply → TurnStep old turn reply new → Steps old.moments new.moments) where
  repeated : (old new : SessionState) (turns : List Turn) (texts : List (List ℕ)) → AllTurns Is turns → NoneRefuses texts → Run old turns texts new
      → Repeated Steps (length turns) old.moments new.moments
  repeated old new [] [] are none run = ap (λ (s : SessionState). s.moments) run
  repeated old new [] (text ∷ texts) are none run = absurd run
  repeated old new (turn ∷ turns) [] are none run = absurd run
  repeated old new (turn ∷ turns) (text ∷ texts) are none run = (
    run.0.moments,
    steps turn old run.0 run.1 are.0 (accepts_by text run.1 run.0.moments.present run.3 none.0) run.2,
    repeated run.0 new turns texts are.1 none.1 run.4,
  )

-- each change is one moment more to undo
advanced : (n : ℕ) (old new : Timeline Moment) → Repeated Advances n old new → length new.past ≡ length old.past + n
advanced zero old new same = omega (arith, ap (λ (t : Timeline Moment). length t.past) same)
advanced (suc n) old new more =
    omega (arith, advanced n more.0 new more.2, ap length more.1.past, length-append old.past (old.present ∷ []))

-- ---- undos

undo_step : (turn : Turn) (old new : SessionState) (reply : Reply) → IsUndo turn → 0 < length old.moments.past → TurnStep old turn reply new → StepsBack old.moments new.moments
undo_step (OfLine line) old new reply is there step =
    by (subst (λ (q : Result Command ℕ). MatchResult q (λ c. StepBy c old reply new) (λ number. IsRefused number old reply new)) (is (kind_of old.moments.present.instance.demand)) step)
  where
    by : StepBy commands.Undo old reply new → StepsBack old.moments new.moments
    by (inl undone) = undone.back
    by (inr none) = absurd (omega (arith, there, ap length none.0))
undo_step (OfGroup lines) old new reply is there step = absurd is

undos : (old new : SessionState) (turns : List Turn) (texts : List (List ℕ)) → AllTurns IsUndo turns → length turns ≤ length old.moments.past → Run old turns texts new
    → Repeated StepsBack (length turns) old.moments new.moments
undos old new [] [] are there run = ap (λ (s : SessionState). s.moments) run
undos old new [] (text ∷ texts) are there run = absurd run
undos old new (turn ∷ turns) [] are there run = absurd run
undos old new (turn ∷ turns) (text ∷ texts) are there run =
    let back = undo_step turn old run.0 run.1 are.0 (omega (arith, there)) run.2 in (
      run.0.moments,
      back,
      undos run.0 new turns texts are.1 (omega (arith, there, ap length back.past, length-append run.0.moments.past (run.0.moments.present ∷ []))) run.4,
    )

-- ---- shown

show_command : (proof : Bool) (old new : SessionState) (reply : Reply) → StepBy (shown_by proof) old reply new → IsShown proof old reply new
show_command true old new reply step = step
show_command false old new reply step = step

show_step : (proof : Bool) (turn : Turn) (old new : SessionState) (reply : Reply) → IsShow proof turn → TurnStep old turn reply new → IsShown proof old reply new
show_step proof (OfLine line) old new reply is step =
    show_command proof old new reply
    (subst (λ (q : Result Command ℕ). MatchResult q (λ c. StepBy c old reply new) (λ number. IsRefused number old reply new)) (is (kind_of old.moments.present.instance.demand)) step)
show_step proof (OfGroup lines) old new reply is step = absurd is

pub text_shown : (proof : Bool) (turn : Turn) (old new : SessionState) (reply : Reply) (text : List ℕ) → IsShow proof turn → TurnStep old turn reply new → text ≡ reply_text reply new.moments.present
    → (new ≡ old) × (text ≡ solution proof old.moments.present)
text_shown proof turn old new reply text is step told =
    let shown = show_step proof turn old new reply is step in (
      shown.unchanged,
      told ∙ ap (λ (r : Reply). reply_text r new.moments.present) shown.reply_is ∙ ap (λ (s : SessionState). solution proof s.moments.present) shown.unchanged,
    )

pub shows_the_same : (proof : Bool) (old new : SessionState) (first last : Turn) (edits backs : List Turn) (shown again : List ℕ) (told taken : List (List ℕ))
    → IsShow proof first → AllTurns MakesEdits edits → AllTurns IsUndo backs → IsShow proof last
    → length told ≡ length edits → length backs ≡ length edits → length taken ≡ length backs → NoneRefuses told
    → Run old (first ∷ edits ++ backs ++ last ∷ []) (shown ∷ told ++ taken ++ again ∷ []) new → again ≡ shown
shows_the_same proof old new first last edits backs shown again told taken shows are undo shows_again count as_many taken_count none run =
    let start = text_shown proof first old run.0 run.1 shown shows run.2 run.3 in
    let ends = split run.0 new (edits ++ backs) (last ∷ []) (told ++ taken) (again ∷ [])
    (omega (arith, length-append told taken, length-append edits backs, count, taken_count)) run.4 in
    let parts = split run.0 ends.0 edits backs told taken count ends.1 in
    let forward = repeated MakesEdits Advances change_step run.0 parts.0 edits told are none parts.1 in
    let more = advanced (length edits) run.0.moments parts.0.moments forward in
    let back = undos parts.0 ends.0 backs taken undo (omega (arith, more, as_many)) parts.2 in
    let same = new_steps_undone (length edits) run.0.moments parts.0.moments ends.0.moments forward
    (subst (λ (n : ℕ). Repeated StepsBack n parts.0.moments ends.0.moments) as_many back) in
    let final = text_shown proof last ends.0 ends.2.0 ends.2.1 again shows_again ends.2.2 ends.2.3 in
    final.1 ∙ ap (solution proof) (same.1 ∙ ap (λ (s : SessionState). s.moments.present) start.0) ∙ sym start.1

-- ---- redos

told_undo : (turn : Turn) (old new : SessionState) (reply : Reply) → IsUndo turn → Accepts reply → TurnStep old turn reply new → StepsBack old.moments new.moments
told_undo (OfLine line) old new reply is accepts step =
    by (subst (λ (q : Result Command ℕ). MatchResult q (λ c. StepBy c old reply new) (λ number. IsRefused number old reply new)) (is (kind_of old.moments.present.instance.demand)) step)
  where
    by : StepBy commands.Undo old reply new → StepsBack old.moments new.moments
    by (inl undone) = undone.back
    by (inr none) = absurd (accepts (step_number refusal.NothingToUndo) none.1.reply_is)
told_undo (OfGroup lines) old new reply is accepts step = absurd is

-- each undo is one moment more to redo
receded : (n : ℕ) (old new : Timeline Moment) → Repeated StepsBack n old new → length new.future ≡ length old.future + n
receded zero old new same = omega (arith, ap (λ (t : Timeline Moment). length t.future) same)
receded (suc n) old new more = omega (arith, receded n more.0 new more.2, ap length more.1.future)

redo_step : (turn : Turn) (old new : SessionState) (reply : Reply) → IsRedo turn → 0 < length old.moments.future → TurnStep old turn reply new → StepsForward old.moments new.moments
redo_step (OfLine line) old new reply is there step =
    by (subst (λ (q : Result Command ℕ). MatchResult q (λ c. StepBy c old reply new) (λ number. IsRefused number old reply new)) (is (kind_of old.moments.present.instance.demand)) step)
  where
    by : StepBy commands.Redo old reply new → StepsForward old.moments new.moments
    by (inl redone) = redone.forward
    by (inr none) = absurd (omega (arith, there, ap length none.0))
redo_step (OfGroup lines) old new reply is there step = absurd is

redos : (old new : SessionState) (turns : List Turn) (texts : List (List ℕ)) → AllTurns IsRedo turns → length turns ≤ length old.moments.future → Run old turns texts new
    → Repeated StepsForward (length turns) old.moments new.moments
redos old new [] [] are there run = ap (λ (s : SessionState). s.moments) run
redos old new [] (text ∷ texts) are there run = absurd run
redos old new (turn ∷ turns) [] are there run = absurd run
redos old new (turn ∷ turns) (text ∷ texts) are there run =
    let forward = redo_step turn old run.0 run.1 are.0 (omega (arith, there)) run.2 in (
      run.0.moments,
      forward,
      redos run.0 new turns texts are.1 (omega (arith, there, ap length forward.future)) run.4,
    )

pub redone_shows_the_same : (proof : Bool) (old new : SessionState) (first last : Turn) (backs forths : List Turn) (shown again : List ℕ) (told taken : List (List ℕ))
    → IsShow proof first → AllTurns IsUndo backs → AllTurns IsRedo forths → IsShow proof last
    → length told ≡ length backs → length forths ≡ length backs → length taken ≡ length forths → NoneRefuses told
    → Run old (first ∷ backs ++ forths ++ last ∷ []) (shown ∷ told ++ taken ++ again ∷ []) new → again ≡ shown
redone_shows_the_same proof old new first last backs forths shown again told taken shows undo redo shows_again count as_many taken_count none run =
    let start = text_shown proof first old run.0 run.1 shown shows run.2 run.3 in
    let ends = split run.0 new (backs ++ forths) (last ∷ []) (told ++ taken) (again ∷ [])
    (omega (arith, length-append told taken, length-append backs forths, count, taken_count)) run.4 in
    let parts = split run.0 ends.0 backs forths told taken count ends.1 in
    let back = repeated IsUndo StepsBack told_undo run.0 parts.0 backs told undo none parts.1 in
    let more = receded (length backs) run.0.moments parts.0.moments back in
    let forward = redos parts.0 ends.0 forths taken redo (omega (arith, more, as_many)) parts.2 in
    let same = steps_redone (length backs) run.0.moments parts.0.moments ends.0.moments back
    (subst (λ (n : ℕ). Repeated StepsForward n parts.0.moments ends.0.moments) as_many forward) in
    let final = text_shown proof last ends.0 ends.2.0 ends.2.1 again shows_again ends.2.2 ends.2.3 in
    final.1 ∙ ap (λ (t : Timeline Moment). solution proof t.present) (same ∙ ap (λ (s : SessionState). s.moments) start.0) ∙ sym start.1
