-- When a moment answers its instance: the verdict is right, and the potentials and the cut are the chosen ones.
use Rattle.std.specs.Prelude.{◌≡◌, ℕ, ◌<◌, ℤ, pos, ◌<ℤ◌, ◌≤ℤ◌, Bool, false, List}
use Rattle.dimacs_text.specs.declared.problem.ArcRow.{ArcRow}
use Rattle.network.specs.Flow.{MinCost, total_cost, surplus_of, IsCertifiedFlow, IsGreatestPotential, IsLeastGreatestSurplus, IsLeastGreatestShortfall}
use Rattle.network.specs.Instance.{Demand, Terminals, Instance, at_node, is_marked, numbered_flow, reduced, reduced_flow, worth, IsLegal, IsBest, IsBreach}
use Rattle.flow_solver.specs.declared.verdict.Verdict.{Verdict}
use Rattle.flow_solver.specs.declared.verdict.Verdict.TheVariants.{Best, Infeasible}
use Rattle.flow_solver.specs.Moment.{IsWellFormed, Moment}
use Rattle.residual_graph.specs.Residual.{number_at}
use Rattle.flow_changes.specs.Push.{left}
use Rattle.cuts.specs.Cut.{lack}

-- the numbered arcs of a flow of the reduced instance carry a best flow of this worth, the return arc what the source sends out, and no node is marked
pub record IsBestMoment (I : Instance) (flow : List ℤ) (set : ℕ → Bool) (w : ℤ) : Type 0 where
  pub reduced_is : flow ≡ reduced_flow I (numbered_flow I.demand flow)
  pub best : IsBest I (numbered_flow I.demand flow)
  pub worth_is : w ≡ worth I (numbered_flow I.demand flow)
  pub none_marked : (v : ℕ) → set v ≡ false

-- no legal flow exists, and the set shows it
pub record IsInfeasibleMoment (I : Instance) (set : ℕ → Bool) (d : ℤ) : Type 0 where
  pub none_legal : (flow : List ℤ) → IsLegal I flow → ⊥
  pub breach : IsBreach I set d

abbrev pub IsVerdict : Verdict → Instance → List ℤ → (ℕ → Bool) → Type 0
IsVerdict (Best w) I flow set = IsBestMoment I flow set w
IsVerdict (Infeasible d) I flow set = IsInfeasibleMoment I set d

-- where some set has a surplus, the set is the smallest of the greatest surplus; where none has, of the greatest shortfall
pub record IsChosenBreach (I : MinCost) (set : ℕ → Bool) (d : ℤ) : Type 0 where
  pub surplus : (other : ℕ → Bool) → pos 0 <ℤ surplus_of I other → IsLeastGreatestSurplus I set d
  pub shortfall : ((other : ℕ → Bool) → surplus_of I other ≤ℤ pos 0) → IsLeastGreatestShortfall I set d

abbrev pub IsChosenCut : Verdict → MinCost → (ℕ → Bool) → Type 0
IsChosenCut (Best w) I set = Unit {0}
IsChosenCut (Infeasible d) I set = IsChosenBreach I set d

-- an answer to the instance, by the chosen certificates
pub record IsAnswered (m : Moment) : Type 0 where
  pub sized : IsWellFormed m
  pub certified : IsCertifiedFlow (reduced m.instance) m.flow (at_node m.potentials)
  pub verdict : IsVerdict m.verdict m.instance m.flow (is_marked m.cut)
  pub greatest : IsGreatestPotential (reduced m.instance) m.flow (at_node m.potentials)
  pub chosen : IsChosenCut m.verdict (reduced m.instance) (is_marked m.cut)

-- the worth of a flow of the reduced instance: its cost, or what the return arc carries
abbrev pub reduced_worth : Demand → List ArcRow → List ℤ → ℤ
reduced_worth (Terminals source sink) arcs flow = number_at flow 0
reduced_worth _ arcs flow = total_cost arcs flow

-- the verdict by what lies in excess and in deficit
pub record IsJudged (worth : ℤ) (e : List ℤ) (verdict : Verdict) : Type 0 where
  pub in_excess : 0 < left e → verdict ≡ Infeasible (pos (left e))
  pub in_deficit : left e ≡ 0 → 0 < lack e → verdict ≡ Infeasible (pos (lack e))
  pub in_neither : left e ≡ 0 → lack e ≡ 0 → verdict ≡ Best worth
