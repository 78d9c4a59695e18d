-- What the lists of an answered moment are, by its verdict.
use Rattle.std.proofs.Common.{◌≡◌, ℕ, ℤ, pos, Bool, true, false, not, List, refl, sym, ap, subst}
use Rattle.flow_solver.specs.Answer.{IsVerdict, IsAnswered}
use Rattle.flow_solver.specs.Moment.{Moment}
use Rattle.flow_solver.specs.declared.verdict.Verdict.{Verdict}
use Rattle.flow_solver.specs.declared.verdict.Verdict.TheVariants.{Best, Infeasible}
use Rattle.network.specs.Instance.{Instance, IsBest, IsBreach, IsCertified, IsLegal, at_node, is_marked, reduced_flow, numbered_flow}
use Rattle.session.specs.Parts.{flow_of}
use Rattle.c_calls.specs.Answer.{IsGiven, IsGivenBy, written_over}
use Rattle.c_calls.specs.Library.{given, has_cut, has_flow, is_feasible}
use Rattle.c_calls.specs.declared.answer.AnswerRoom.{AnswerRoom}

-- what is given is there
pub given_there : (there : Bool) (count room : ℕ) → given there count room ≡ pos 0 → there ≡ true
given_there true count room e = refl
given_there false count room e = absurd cc

best_by : (v : Verdict) (I : Instance) (flow : List ℤ) (set : ℕ → Bool) → is_feasible v ≡ true → IsVerdict v I flow set
    → IsBest I (numbered_flow I.demand flow) × (flow ≡ reduced_flow I (numbered_flow I.demand flow))
best_by (Best worth) I flow set feasible is = (is.best, is.reduced_is)
best_by (Infeasible shortage) I flow set feasible is = absurd cc

pub best_flow : (m : Moment) → IsAnswered m → has_flow m ≡ true → IsBest m.instance (flow_of m)
best_flow m answered feasible = (best_by m.verdict m.instance m.flow (is_marked m.cut) feasible answered.verdict).0

pub certified : (m : Moment) → IsAnswered m → has_flow m ≡ true → IsCertified m.instance (flow_of m) (at_node m.potentials)
certified m answered feasible =
    let same = (best_by m.verdict m.instance m.flow (is_marked m.cut) feasible answered.verdict).1 in
    rw same at answered.certified

none_by : (v : Verdict) (I : Instance) (flow : List ℤ) (set : ℕ → Bool) → not (is_feasible v) ≡ true → IsVerdict v I flow set → (x : List ℤ) → IsLegal I x → ⊥
none_by (Best worth) I flow set infeasible is = absurd cc
none_by (Infeasible shortage) I flow set infeasible is = is.none_legal

pub none_legal : (m : Moment) → IsAnswered m → has_cut m ≡ true → (x : List ℤ) → IsLegal m.instance x → ⊥
none_legal m answered infeasible = none_by m.verdict m.instance m.flow (is_marked m.cut) infeasible answered.verdict

breach_by : (v : Verdict) (I : Instance) (flow : List ℤ) (set : ℕ → Bool) (shortage : ℤ) → v ≡ Infeasible shortage → IsVerdict v I flow set → IsBreach I set shortage
breach_by (Best worth) I flow set shortage e is = absurd cc
breach_by (Infeasible d) I flow set shortage e is = let same : d ≡ shortage = cc in rw same at is.breach

pub breach : (m : Moment) (shortage : ℤ) → IsAnswered m → m.verdict ≡ Infeasible shortage → IsBreach m.instance (is_marked m.cut) shortage
breach m shortage answered e = breach_by m.verdict m.instance m.flow (is_marked m.cut) shortage e answered.verdict

-- lists that are in their rooms are the answer, by the verdict
pub best_given : (m : Moment) (worth : ℤ) (old new : AnswerRoom) → Best worth ≡ m.verdict → IsAnswered m → new.flow.now ≡ written_over (flow_of m) old.flow.now
    → new.potentials.now ≡ written_over m.potentials old.potentials.now → new.cut.now ≡ old.cut.now → IsGiven m old new
best_given m worth old new e answered flow potentials cut =
    let feasible : has_flow m ≡ true = ap is_feasible (sym e) in
    subst (λ (v : Verdict). IsGivenBy v m old new) e
    (record { flow_is = flow; potentials_are = potentials; cut_stays = cut; best = best_flow m answered feasible; certified = certified m answered feasible })

pub cut_given : (m : Moment) (shortage : ℤ) (old new : AnswerRoom) → Infeasible shortage ≡ m.verdict → IsAnswered m → new.cut.now ≡ written_over m.cut old.cut.now
    → new.flow.now ≡ old.flow.now → new.potentials.now ≡ old.potentials.now → IsGiven m old new
cut_given m shortage old new e answered cut flow potentials =
    let infeasible : has_cut m ≡ true = ap (λ v. not (is_feasible v)) (sym e) in
    subst (λ (v : Verdict). IsGivenBy v m old new) e
    (record { cut_is = cut; flow_stays = flow; potentials_stay = potentials; breach = breach m shortage answered (sym e); none_legal = none_legal m answered infeasible })
