-- Runs over the same turns write the same, but for flows.
use Rattle.std.proofs.Common.{◌≡◌, ◌≢◌, ℕ, Bool, List, [], ◌∷◌, ◌++◌, Ok, Result, append_assoc, refl, sym, ap, ap₂, subst, ◌∙◌}
use Rattle.std.specs.Prelude.{⊤}
use Rattle.std.specs.List.{AllZip, concat}
use Rattle.dimacs_io.specs.Line.{refusal_line}
use Rattle.dimacs_lines.specs.Lines.{lines_of}
use Rattle.dimacs_lines.specs.declared.fault.TextFault.{TextFault}
use Rattle.dimacs_text.specs.Reading.{ProblemValue, reads}
use Rattle.dimacs_text.specs.Turns.{Turn}
use Rattle.network.specs.Instance.{Instance, first}
use Rattle.flow_solver.specs.Moment.{Moment}
use Rattle.flow_solver.specs.declared.verdict.Verdict.{Verdict}
use Rattle.session.specs.declared.refusal.StepRefusal.TheVariants as refusal
use Rattle.session.specs.Refusal.{number_of}
use Rattle.session.specs.Step.{Reply, TellsVerdict, Shows, Refuses, SessionState}
use Rattle.runs.specs.Reading.{IsProblemText}
use Rattle.runs.specs.declared.end.End.{End}
use Rattle.runs.specs.declared.end.End.TheVariants.{Ended}
use Rattle.engines.specs.Opening.{Opens}
use Rattle.engines.specs.Printing.{reply_text, outcome_line, solution}
use Rattle.engines.specs.Run.{Run}
use Rattle.engines.specs.Session.{PrintsRun, SessionWrites}
use Rattle.engines.specs.Solve.{Prints, end_by}
use Rattle.run_laws.specs.Alike.{HasOneBest, MomentsAlike, StatesAlike}
use Rattle.run_laws.specs.Texts.{DifferInFlows, TellsNoWantOfMemory}
use Rattle.run_laws.proofs.Agreeing.{same_verdict}
use Rattle.run_laws.proofs.Stepping.{turns_alike}
use Rattle.run_laws.proofs.Pieces.{same_by, together, all_together}
use Rattle.run_laws.proofs.Showing.{begins, shown_alike, shown_the_same}

verdict_is : (a b : Moment) → MomentsAlike a b → b.verdict ≡ a.verdict
verdict_is a b alike = same_verdict a b a.instance.room alike.instance alike.one alike.other

reply_alike : (r : Reply) (a b : Moment) → MomentsAlike a b → DifferInFlows (reply_text r a) (reply_text r b)
reply_alike TellsVerdict a b alike = same_by (outcome_line a.verdict) (outcome_line b.verdict) (ap outcome_line (verdict_is a b alike))
reply_alike (Shows proof) a b alike = shown_alike proof a b a.instance.room alike.instance alike.one alike.other
reply_alike (Refuses n) a b alike = same_by (refusal_line n) (refusal_line n) refl

not_memory : (text : List ℕ) (r : Reply) (m : Moment) → text ≡ reply_text r m → text ≢ refusal_line (number_of refusal.Memory) → r ≢ Refuses (number_of refusal.Memory)
not_memory text r m is never e = never (is ∙ ap (λ (q : Reply). reply_text q m) e)

-- no reply tells that memory was refused
abbrev NoMemory : List (List ℕ) → Type 0
NoMemory [] = ⊤
NoMemory (text ∷ texts) = (text ≢ refusal_line (number_of refusal.Memory)) × NoMemory texts

no_memory : (front : List ℕ) (texts : List (List ℕ)) → TellsNoWantOfMemory (front ++ concat texts) → NoMemory texts
no_memory front [] none = tt
no_memory front (text ∷ texts) none = (
  λ (e : text ≡ refusal_line (number_of refusal.Memory)). none front (concat texts) (ap (λ (z : List ℕ). front ++ (z ++ concat texts)) e ∙ sym (append_assoc front (refusal_line (number_of refusal.Memory)) (concat texts))),
  no_memory (front ++ text) texts (subst TellsNoWantOfMemory (sym (append_assoc front text (concat texts))) none),
)

all_alike : (s t after other : SessionState) (turns : List Turn) (one two : List (List ℕ)) → StatesAlike s t → Run s turns one after → Run t turns two other → NoMemory one → NoMemory two
    → AllZip DifferInFlows one two
all_alike s t after other [] [] [] alike a b m n = tt
all_alike s t after other [] [] (y ∷ two) alike a b m n = absurd b
all_alike s t after other [] (x ∷ one) two alike a b m n = absurd a
all_alike s t after other (turn ∷ turns) [] two alike a b m n = absurd a
all_alike s t after other (turn ∷ turns) (x ∷ one) [] alike a b m n = absurd b
all_alike s t after other (turn ∷ turns) (x ∷ one) (y ∷ two) alike a b m n =
    let step = turns_alike s t a.0 b.0 turn a.1 b.1 alike a.2 b.2 (not_memory x a.1 a.0.moments.present a.3 m.0) (not_memory y b.1 b.0.moments.present b.3 n.0) in
    let told : y ≡ reply_text a.1 b.0.moments.present = b.3 ∙ ap (λ (r : Reply). reply_text r b.0.moments.present) step.0 in (
      subst (λ (z : List ℕ). DifferInFlows z y) (sym a.3) (subst (λ (z : List ℕ). DifferInFlows (reply_text a.1 a.0.moments.present) z) (sym told) (reply_alike a.1 a.0.moments.present b.0.moments.present step.1.present)),
      all_alike a.0 b.0 after other turns one two step.1 a.4 b.4 m.1 n.1,
    )

-- ---- openings

moments_alike : (problem : ProblemValue) (extra : ℕ) (s t : SessionState) → Opens problem extra s → Opens problem extra t → StatesAlike s t
moments_alike problem extra s t a b = record {
  past = subst (λ (xs : List Moment). AllZip MomentsAlike xs t.moments.past) (sym a.past) (subst (λ (ys : List Moment). AllZip MomentsAlike [] ys) (sym b.past) tt);
  present = record { instance = b.settled.instance_is ∙ sym a.settled.instance_is; one = a.settled.answered; other = b.settled.answered };
  future = subst (λ (xs : List Moment). AllZip MomentsAlike xs t.moments.future) (sym a.future) (subst (λ (ys : List Moment). AllZip MomentsAlike [] ys) (sym b.future) tt);
  marks = b.marks ∙ sym a.marks;
}

prints_alike : (problem : ProblemValue) (extra : ℕ) (commands written other : List ℕ) → PrintsRun problem extra (lines_of commands) written → PrintsRun problem extra (lines_of commands) other
    → TellsNoWantOfMemory written → TellsNoWantOfMemory other → DifferInFlows written other
prints_alike problem extra commands written other a b quiet other_quiet =
    let start = moments_alike problem extra a.opening b.opening a.opens b.opens in
    let told = outcome_line a.opening.moments.present.verdict in
    let other_told = outcome_line b.opening.moments.present.verdict in
    let text : written ≡ told ++ concat a.answers.texts = a.written_is ∙ ap (λ (z : List ℕ). told ++ z) a.answers.written_is in
    let other_text : other ≡ other_told ++ concat b.answers.texts = b.written_is ∙ ap (λ (z : List ℕ). other_told ++ z) b.answers.written_is in
    let all = all_alike a.opening b.opening a.last b.last _ a.answers.texts b.answers.texts start a.answers.run b.answers.run
    (no_memory told a.answers.texts (subst TellsNoWantOfMemory text quiet)) (no_memory other_told b.answers.texts (subst TellsNoWantOfMemory other_text other_quiet)) in
    let outcome = same_by told other_told (ap outcome_line (verdict_is a.opening.moments.present b.opening.moments.present start.present)) in
    let whole = together told other_told (concat a.answers.texts) (concat b.answers.texts) outcome (all_together a.answers.texts b.answers.texts all) in
    subst (λ (x : List ℕ). DifferInFlows x other) (sym text) (subst (λ (y : List ℕ). DifferInFlows (told ++ concat a.answers.texts) y) (sym other_text) whole)

-- ---- texts

ok_same : (x y : ProblemValue) → ◌≡◌ {A = Result ProblemValue TextFault} (Ok x) (Ok y) → x ≡ y
ok_same x y e = cc

one_problem : (text given other_given : List ℕ) (p q : ProblemValue) → IsProblemText text given p → IsProblemText text other_given q → q ≡ p
one_problem text given other_given p q a b = ok_same q p (sym b.problem_is ∙ a.problem_is)

pub sessions_alike : (extra : ℕ) (problem_text problem_given other_problem_given commands given other_given written other : List ℕ)
    → SessionWrites Ended extra problem_text problem_given commands given written
    → SessionWrites Ended extra problem_text other_problem_given commands other_given other
    → TellsNoWantOfMemory written → TellsNoWantOfMemory other → DifferInFlows written other
sessions_alike extra problem_text problem_given other_problem_given commands given other_given written other a b quiet other_quiet =
    let one = one_problem problem_text problem_given other_problem_given a.0 b.0 a.1 b.1 in
    prints_alike a.0 extra commands written other a.2 (subst (λ (p : ProblemValue). PrintsRun p extra (lines_of commands) other) one b.2) quiet other_quiet

-- the instance of a problem, whatever the room for arcs more
other_room : (p q : ProblemValue) (extra : ℕ) (I J : Instance) → q ≡ p → I ≡ first p 0 → J ≡ first q extra → J ≡ record I { room = J.room }
other_room p q extra I J same is other =
    let told : J ≡ first p extra = other ∙ ap (λ (r : ProblemValue). first r extra) same in
    told ∙ ap₂ (λ (K : Instance) (room : ℕ). record K { room = room }) (sym is) (sym (ap (λ (K : Instance). K.room) told))

pub solves_alike : (proof : Bool) (end other_end : End) (text given other_given written other : List ℕ)
    → Prints end proof text given written → Prints other_end proof text other_given other → (other_end ≡ end) × DifferInFlows written other
solves_alike proof end other_end text given other_given written other a b =
    let one = one_problem text given other_given a.solves.problem b.solves.problem a.solves.problem_read b.solves.problem_read in
    let m = a.moment in
    let n = b.moment in
    let room = other_room a.solves.problem b.solves.problem 0 m.instance n.instance one a.solves.settled.instance_is b.solves.settled.instance_is in
    let verdict = same_verdict m n n.instance.room room a.solves.settled.answered b.solves.settled.answered in (
      b.ends ∙ ap end_by verdict ∙ sym a.ends,
      subst (λ (x : List ℕ). DifferInFlows x other) (sym a.written_is) (subst (λ (y : List ℕ). DifferInFlows (solution proof m) y) (sym b.written_is)
          (shown_alike proof m n n.instance.room room a.solves.settled.answered b.solves.settled.answered)),
    )

pub solves_same : (proof : Bool) (end other_end : End) (text given other_given written other : List ℕ) (problem : ProblemValue) → reads text ≡ Ok problem → HasOneBest (first problem 0)
    → Prints end proof text given written → Prints other_end proof text other_given other → other ≡ written
solves_same proof end other_end text given other_given written other problem read unique a b =
    let one = one_problem text given other_given a.solves.problem b.solves.problem a.solves.problem_read b.solves.problem_read in
    let m = a.moment in
    let n = b.moment in
    let room = other_room a.solves.problem b.solves.problem 0 m.instance n.instance one a.solves.settled.instance_is b.solves.settled.instance_is in
    let its : problem ≡ a.solves.problem = ok_same problem a.solves.problem (sym read ∙ a.solves.problem_read.problem_is) in
    let here : HasOneBest m.instance = subst HasOneBest (ap (λ (p : ProblemValue). first p 0) its ∙ sym a.solves.settled.instance_is) unique in
    b.written_is ∙ shown_the_same proof m n n.instance.room room a.solves.settled.answered b.solves.settled.answered here ∙ sym a.written_is

module _ (proof : Bool) (end : End) (extra : ℕ) (text given other_given written : List ℕ) (problem : ProblemValue) (opening : SessionState)
    (a : Prints end proof text given written) (read : IsProblemText text other_given problem) (opens : Opens problem extra opening) where
  abbrev m : Moment
  m = a.moment

  abbrev n : Moment
  n = opening.moments.present

  room_is : n.instance ≡ record m.instance { room = n.instance.room }
  room_is = other_room a.solves.problem problem extra m.instance n.instance (one_problem text given other_given a.solves.problem problem a.solves.problem_read read)
      a.solves.settled.instance_is opens.settled.instance_is

  pub solve_opens : (rest : List ℕ) × (written ≡ outcome_line opening.moments.present.verdict ++ rest)
  solve_opens =
      let begun = begins proof m in
      let verdict = same_verdict m n n.instance.room room_is a.solves.settled.answered opens.settled.answered in
      (begun.0, a.written_is ∙ begun.1 ∙ ap (λ (v : Verdict). outcome_line v ++ begun.0) (sym verdict))

  pub solve_shown : DifferInFlows written (solution proof opening.moments.present)
  solve_shown = subst (λ (x : List ℕ). DifferInFlows x (solution proof n)) (sym a.written_is)
      (shown_alike proof m n n.instance.room room_is a.solves.settled.answered opens.settled.answered)
