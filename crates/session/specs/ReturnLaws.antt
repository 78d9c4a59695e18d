-- A flow with the return arc's flow first, as a verdict tells it.
use Rattle.std.proofs.Common.{◌≡◌, ℕ, ℤ, List, ◌++◌, refl}
use Rattle.network.specs.Instance.{Demand, Supplies, Terminals, Sides, numbered_flow}
use Rattle.flow_solver.specs.declared.verdict.Verdict.{Verdict}
use Rattle.flow_solver.specs.declared.verdict.Verdict.TheVariants.{Best, Infeasible}
use Rattle.flow_solver.specs.Moment.{returned, VerdictFits}
use Rattle.session.specs.Parts.{demand_swapped}

-- the numbered arcs have the flows behind it
pub numbered_behind : (demand : Demand) (verdict : Verdict) (xs : List ℤ) → VerdictFits demand verdict → numbered_flow demand (returned demand verdict ++ xs) ≡ xs
numbered_behind (Supplies supplies) verdict xs fits = refl
numbered_behind (Terminals source sink) (Best w) xs fits = refl
numbered_behind (Terminals source sink) (Infeasible d) xs fits = absurd fits
numbered_behind (Sides marks) verdict xs fits = refl

-- other supplies change nothing of the return arc
pub returned-swapped : (places : List (ℕ × ℤ)) (demand : Demand) (verdict : Verdict) → returned (demand_swapped places demand) verdict ≡ returned demand verdict
returned-swapped places (Supplies supplies) verdict = refl
returned-swapped places (Terminals source sink) (Best w) = refl
returned-swapped places (Terminals source sink) (Infeasible d) = refl
returned-swapped places (Sides marks) verdict = refl

pub numbered-swapped : (places : List (ℕ × ℤ)) (demand : Demand) (flow : List ℤ) → numbered_flow (demand_swapped places demand) flow ≡ numbered_flow demand flow
numbered-swapped places (Supplies supplies) flow = refl
numbered-swapped places (Terminals source sink) flow = refl
numbered-swapped places (Sides marks) flow = refl

pub verdict_fits-swapped : (places : List (ℕ × ℤ)) (demand : Demand) (verdict : Verdict) → VerdictFits (demand_swapped places demand) verdict ≡ VerdictFits demand verdict
verdict_fits-swapped places (Supplies supplies) verdict = refl
verdict_fits-swapped places (Terminals source sink) verdict = refl
verdict_fits-swapped places (Sides marks) verdict = refl
