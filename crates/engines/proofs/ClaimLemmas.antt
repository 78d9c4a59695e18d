-- What the contracts of the engines come to: the claim.
use Rattle.std.proofs.Common.{◌≡◌, ◌≢◌, IsTrue, ℕ, Bool, true, false, List, [], ◌∷◌, ◌++◌, length, Option, Some, None, Result, Ok, Err, inl, inr, refl, sym, ap, subst, ◌∙◌}
use Rattle.std.proofs.lemmas.Bool.{false≢true}
use Rattle.std.proofs.lemmas.List.Elements.{All-nil, All-push}
use Rattle.std.specs.Prelude.{◌⊎◌, MatchResult}
use Rattle.std.specs.List.{All}
use Rattle.dimacs_text.specs.declared.command_fault.CommandFault.{CommandFault}
use Rattle.dimacs_text.specs.CommandFault.{number_of}
use Rattle.dimacs_lines.specs.Lines.{lines_of}
use Rattle.dimacs_text.specs.declared.command.Command.{Command}
use Rattle.dimacs_text.specs.declared.command.Command.TheVariants as commands
use Rattle.dimacs_text.specs.declared.command.Edit.{Edit}
use Rattle.answer_text.specs.Answer.{answers}
use Rattle.dimacs_text.specs.Command.{command}
use Rattle.dimacs_text.specs.Group.{Gathered, gathered}
use Rattle.dimacs_text.specs.Reading.{ProblemValue, reads}
use Rattle.dimacs_text.specs.Turns.{Turn, OfLine, OfGroup}
use Rattle.answer_text.specs.declared.answer.Answer.{Answer}
use Rattle.network.specs.Edited.{edited, edited_all}
use Rattle.network.specs.Instance.{Instance, is_marked, kind_of}
use Rattle.history.specs.Boards.{all_boards}
use Rattle.history.proofs.Repeating.{new_step_undone}
use Rattle.history.proofs.Timelines.{all_advance, all_boards_back, all_boards_forward}
use Rattle.flow_solver.specs.declared.verdict.Verdict.{Verdict}
use Rattle.flow_solver.specs.declared.verdict.Verdict.TheVariants.{Best, Infeasible}
use Rattle.flow_solver.specs.Answer.{IsAnswered, IsVerdict}
use Rattle.flow_solver.specs.Moment.{Moment}
use Rattle.session.specs.declared.refusal.StepRefusal.TheVariants as step_refusal
use Rattle.session.specs.Marks.{has_place, marked}
use Rattle.session.specs.Refusal.{number_of as step_number}
use Rattle.session.specs.Step.{Reply, Refuses, TellsVerdict, Shows, SessionState, IsApplied, IsRefused, StepBy, StepOfBack, StepOfEdits, StepOfMark, TurnStep}
use Rattle.checker.specs.Check.{AreSettled, CheckOnDevices, Judges, Settles, ValidSettles, verdict_line}
use Rattle.runs.specs.declared.end.End.{End}
use Rattle.runs.specs.declared.end.End.TheVariants.{Solved, Infeasible as NoPlan, Ended, Valid, NotValid}
use Rattle.engines.specs.Claim.{AreRightMoments, GoesRightly, IsRightMoment, JudgesRightly, Means, RefusedTurnsChangeNothing, ServesRightly, SolvesRightly, UndoRestores, Written, plan_of}
use Rattle.engines.specs.Printing.{outcome_line}
use Rattle.engines.specs.Run.{Run, turns_in}
use Rattle.engines.specs.Session.{SessionOnDevices}
use Rattle.engines.specs.Solve.{Prints, SolveOnDevices}

-- ---- moments

means : (verdict : Verdict) (m : Moment) → IsVerdict verdict m.instance m.flow (is_marked m.cut) → Means verdict m.instance (plan_of m) (is_marked m.cut)
means (Best number) m is = (is.best, is.worth_is)
means (Infeasible number) m is = (is.breach, is.none_legal)

right : (m : Moment) → IsAnswered m → IsRightMoment m
right m answered = record { means = means m.verdict m answered.verdict; answered = answered }

-- ---- solve

prints : (end : End) (proof : Bool) (text given written : List ℕ) → Prints end proof text given written → SolvesRightly proof text written
prints end proof text given written is = record {
  problem = is.solves.problem;
  problem_is = is.solves.problem_read.problem_is;
  moment = is.moment;
  instance_is = is.solves.settled.instance_is;
  right = right is.moment is.solves.settled.answered;
  written_is = is.written_is;
}

pub solves : (end : End) (proof : Bool) (text held : List ℕ) (count : ℕ) (after : Option (List ℕ))
    → (end ≡ Solved) ⊎ (end ≡ NoPlan) → SolveOnDevices end proof (Some text) count (Some held) after → Written (SolvesRightly proof text) held after
solves end proof text held count after (inl e) wrote =
    let at_end = subst (λ (x : End). SolveOnDevices x proof (Some text) count (Some held) after) e wrote in
    (at_end.0, at_end.1, prints Solved proof text _ at_end.0 at_end.2)
solves end proof text held count after (inr e) wrote =
    let at_end = subst (λ (x : End). SolveOnDevices x proof (Some text) count (Some held) after) e wrote in
    (at_end.0, at_end.1, prints NoPlan proof text _ at_end.0 at_end.2)

-- ---- steps

-- what a step leads to: where all moments are right they remain so, and a refusal changes nothing
record StepsRightly (old : SessionState) (reply : Reply) (new : SessionState) : Type 0 where
  remain : AreRightMoments old → AreRightMoments new
  refused : (number : ℕ) → reply ≡ Refuses number → new ≡ old

-- a step that is no refusal
accepted : (old new : SessionState) (reply told : Reply) → reply ≡ told → ((number : ℕ) → told ≢ Refuses number) → (AreRightMoments old → AreRightMoments new) → StepsRightly old reply new
accepted old new reply told is never remain = record { remain = remain; refused = λ number e. absurd (never number (sym is ∙ e)) }

tells_none : (number : ℕ) → TellsVerdict ≢ Refuses number
tells_none number e = cc

shows_none : (proof : Bool) (number : ℕ) → Shows proof ≢ Refuses number
shows_none proof number e = cc

-- the state is the same
unmoved : (old new : SessionState) → new ≡ old → AreRightMoments old → AreRightMoments new
unmoved old new same all = subst AreRightMoments (sym same) all

-- the moments are the same, in the order of time
along : (old new : SessionState) → all_boards new.moments ≡ all_boards old.moments → AreRightMoments old → AreRightMoments new
along old new same all = subst (All IsRightMoment) (sym same) all

refusal : (number : ℕ) (old new : SessionState) (reply : Reply) → IsRefused number old reply new → StepsRightly old reply new
refusal number old new reply is = record { remain = unmoved old new is.unchanged; refused = λ n e. is.unchanged }

edit_step : (tested : Result Instance ℕ) (edit : Edit) (old new : SessionState) (reply : Reply)
    → MatchResult tested (λ _. IsApplied edit old reply new ⊎ IsRefused (step_number step_refusal.Memory) old reply new) (λ number. IsRefused number old reply new) → StepsRightly old reply new
edit_step (Ok I) edit old new reply (inl is) =
    accepted old new reply TellsVerdict is.reply_is tells_none (λ all. all_advance IsRightMoment old.moments new.moments is.advances all (right new.moments.present is.edited_to.answered))
edit_step (Ok I) edit old new reply (inr is) = refusal _ old new reply is
edit_step (Err number) edit old new reply is = refusal number old new reply is

mark_step : (place : Bool) (name : List ℕ) (old new : SessionState) (reply : Reply) → StepOfMark place name old reply new → StepsRightly old reply new
mark_step true name old new reply is = accepted old new reply TellsVerdict is.reply_is tells_none (along old new (ap all_boards is.moments))
mark_step false name old new reply is = refusal _ old new reply is

back_step : (moment : Option ℕ) (old new : SessionState) (reply : Reply) → StepOfBack moment old reply new → StepsRightly old reply new
back_step (Some moment) old new reply is = accepted old new reply TellsVerdict is.reply_is tells_none (along old new is.moved.boards)
back_step None old new reply is = refusal _ old new reply is

command_step : (c : Command) (old new : SessionState) (reply : Reply) → StepBy c old reply new → StepsRightly old reply new
command_step (commands.Edit edit) old new reply is = edit_step (edited old.moments.present.instance edit) edit old new reply is
command_step commands.Undo old new reply (inl is) = accepted old new reply TellsVerdict is.reply_is tells_none (along old new (all_boards_back old.moments new.moments is.back))
command_step commands.Redo old new reply (inl is) = accepted old new reply TellsVerdict is.reply_is tells_none (along old new (all_boards_forward old.moments new.moments is.forward))
command_step commands.Show old new reply is = accepted old new reply (Shows false) is.reply_is (shows_none false) (unmoved old new is.unchanged)
command_step commands.Proof old new reply is = accepted old new reply (Shows true) is.reply_is (shows_none true) (unmoved old new is.unchanged)
command_step commands.Group old new reply is = refusal _ old new reply is
command_step commands.End old new reply is = refusal _ old new reply is
command_step (commands.Mark name) old new reply is = mark_step (has_place old.marks name) name old new reply is
command_step (commands.Back name) old new reply is = back_step (marked old.marks name) old new reply is
command_step _ old new reply (inr is) = refusal _ old new reply is.1

line_step : (r : Result Command ℕ) (old new : SessionState) (reply : Reply)
    → MatchResult r (λ c. StepBy c old reply new) (λ number. IsRefused number old reply new) → StepsRightly old reply new
line_step (Ok c) old new reply step = command_step c old new reply step
line_step (Err number) old new reply is = refusal number old new reply is

edits_step : (fault : Option CommandFault) (edits : List Edit) (old new : SessionState) (reply : Reply) → StepOfEdits fault edits old reply new → StepsRightly old reply new
edits_step (Some fault) edits old new reply is = refusal (number_of fault) old new reply is
edits_step None edits old new reply (inl is) =
    accepted old new reply TellsVerdict is.reply_is tells_none (λ all. all_advance IsRightMoment old.moments new.moments is.advances all (right new.moments.present is.edited_to.answered))
edits_step None edits old new reply (inr is) = refusal _ old new reply is

group_step : (tested : Result Instance ℕ) (group : Gathered) (old new : SessionState) (reply : Reply)
    → MatchResult tested (λ _. StepOfEdits group.fault group.edits old reply new) (λ number. IsRefused number old reply new) → StepsRightly old reply new
group_step (Ok I) group old new reply step = edits_step group.fault group.edits old new reply step
group_step (Err number) group old new reply is = refusal number old new reply is

step : (turn : Turn) (old new : SessionState) (reply : Reply) → TurnStep old turn reply new → StepsRightly old reply new
step (OfLine line) old new reply is = line_step (command (kind_of old.moments.present.instance.demand) line) old new reply is
step (OfGroup lines) old new reply is =
    let group = gathered (kind_of old.moments.present.instance.demand) 0 lines in group_step (edited_all old.moments.present.instance group.edits) group old new reply is

pub changes_nothing : RefusedTurnsChangeNothing
changes_nothing old new turn number is = (step turn old new (Refuses number) is).refused number refl

pub restores : UndoRestores
restores old changed new reply made (inl is) = let undone = new_step_undone old.moments changed.moments new.moments made is.back in (undone.1, undone.0)
restores old changed new reply made (inr is) = absurd (no_past old.moments.past (sym made.past ∙ is.0))
  where
    no_past : (past : List Moment) → past ++ old.moments.present ∷ [] ≢ []
    no_past [] e = cc
    no_past (m ∷ past) e = cc

-- ---- session

goes : (state : SessionState) (turns : List Turn) (replies : List (List ℕ)) (last : SessionState) → AreRightMoments state → Run state turns replies last → GoesRightly state turns replies
goes state [] [] last all run = tt
goes state (turn ∷ turns) (text ∷ replies) last all run =
    let all_next = (step turn state run.0 run.1 run.2).remain all in
    (run.0, run.1, run.2, all_next, run.3, goes run.0 turns replies last all_next run.4)
goes state _ _ last all run = run

-- a state without past and future
one_moment : (state : SessionState) → state.moments.past ≡ [] → state.moments.future ≡ [] → IsRightMoment state.moments.present → AreRightMoments state
one_moment state past future here =
    subst (All IsRightMoment) (sym (ap (λ (ms : List Moment). ms ++ state.moments.present ∷ state.moments.future) past ∙ ap (λ (ms : List Moment). state.moments.present ∷ ms) future))
    (All-push IsRightMoment [] state.moments.present (All-nil IsRightMoment) here)

pub serves : (extra : ℕ) (text commands held : List ℕ) (count command_count : ℕ) (after : Option (List ℕ))
    → SessionOnDevices Ended extra (Some text) count (Some commands) command_count (Some held) after → Written (ServesRightly extra text commands) held after
serves extra text commands held count command_count after (written, after_is, (problem, problem_read, printing)) =
    let opens = printing.opens in
    let all = one_moment printing.opening opens.past opens.future (right printing.opening.moments.present opens.settled.answered) in (
      written,
      after_is,
      record {
        problem = problem;
        problem_is = problem_read.problem_is;
        opening = printing.opening;
        begins = record { past = opens.past; instance_is = opens.settled.instance_is; future = opens.future; marks = opens.marks; right = all };
        replies = printing.answers.texts;
        goes = goes printing.opening (turns_in (lines_of commands)).whole printing.answers.texts printing.last all printing.answers.run;
        written_is = printing.written_is ∙ ap (λ (texts : List ℕ). outcome_line printing.opening.moments.present.verdict ++ texts) printing.answers.written_is;
      },
    )

-- ---- check

ok_same : {A B : Type 0} (x y : A) → ◌≡◌ {A = Result A B} (Ok x) (Ok y) → x ≡ y
ok_same x y e = cc

-- what two texts settle, they settle of the problem and the answer that are read in them
settled_of : (text answer_text : List ℕ) (problem : ProblemValue) (answer : Answer) → reads text ≡ Ok problem → answers problem.nodes (length problem.arcs) answer_text ≡ Ok answer
    → AreSettled text answer_text → Settles answer problem
settled_of text answer_text problem answer problem_is answer_is settled =
    let same : settled.problem ≡ problem = ok_same settled.problem problem (sym settled.problem_is ∙ problem_is) in
    let read = subst (λ (p : ProblemValue). answers p.nodes (length p.arcs) answer_text ≡ Ok settled.answer) same settled.answer_is in
    let same_answer : settled.answer ≡ answer = ok_same settled.answer answer (sym read ∙ answer_is) in
    subst (λ (a : Answer). Settles a problem) same_answer (subst (λ (p : ProblemValue). Settles settled.answer p) same settled.settled)

judged : (right : Bool) (text given answer_text answer_given written : List ℕ) → (IsTrue right → AreSettled text answer_text) → Judges text given answer_text answer_given right
    → written ≡ verdict_line right → JudgesRightly text answer_text written
judged right text given answer_text answer_given written settles is written_is = record {
  problem = is.problem;
  problem_is = is.problem_read.problem_is;
  answer = is.answer;
  answer_is = is.answer_read.answer_is;
  right = right;
  exact = is.exact;
  settles = λ so. settled_of text answer_text is.problem is.answer is.problem_read.problem_is is.answer_read.answer_is (settles so);
  written_is = written_is;
}

pub judges : (end : End) (text answer held : List ℕ) (count answer_count : ℕ) (after : Option (List ℕ))
    → (end ≡ Valid) ⊎ (end ≡ NotValid) → CheckOnDevices end (Some text) count (Some answer) answer_count (Some held) after
    → ValidSettles end (Some text) (Some answer) → Written (JudgesRightly text answer) held after
judges end text answer held count answer_count after (inl e) wrote settles =
    let (written, after_is, (is, written_is)) = subst (λ (x : End). CheckOnDevices x (Some text) count (Some answer) answer_count (Some held) after) e wrote in
    (written, after_is, judged true text _ answer _ written (λ so. settles e) is written_is)
judges end text answer held count answer_count after (inr e) wrote settles =
    let (written, after_is, (is, written_is)) = subst (λ (x : End). CheckOnDevices x (Some text) count (Some answer) answer_count (Some held) after) e wrote in
    (written, after_is, judged false text _ answer _ written (λ so. absurd (false≢true so)) is written_is)
