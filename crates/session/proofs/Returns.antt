-- The places of a flow with the return arc's flow first.
use Rattle.std.proofs.Common.{◌≡◌, ℕ, zero, suc, ◌-◌, ◌≤◌, ℤ, List, [], ◌∷◌, ◌++◌, length, get_or, set, refl, ap, arith}
use Rattle.dimacs_text.specs.declared.problem.ArcRow.{ArcRow}
use Rattle.network.specs.Instance.{Demand, Terminals, numbered_flow, reduced_arcs}
use Rattle.flow_solver.specs.declared.verdict.Verdict.{Verdict}
use Rattle.flow_solver.specs.declared.verdict.Verdict.TheVariants.{Best, Infeasible}
use Rattle.flow_solver.specs.TablesView.{flow_index}
use Rattle.flow_solver.specs.Moment.{returned, VerdictFits}

-- the flow of arc k stands at index k - 1 behind it
pub get_or-behind : (demand : Demand) (verdict : Verdict) (xs : List ℤ) (k : ℕ) (d : ℤ) → VerdictFits demand verdict → 1 ≤ k → get_or (returned demand verdict ++ xs) (flow_index demand k) d ≡ get_or xs (k - 1) d
get_or-behind (Terminals source sink) (Best w) xs zero d fits some = absurd (omega arith)
get_or-behind (Terminals source sink) (Best w) xs (suc k) d fits some = ap (λ (i : ℕ). get_or xs i d) {x = k} {y = suc k - 1} (omega arith)
get_or-behind (Terminals source sink) (Infeasible e) xs k d fits some = absurd fits
get_or-behind _ verdict xs k d fits some = refl

pub set-behind : (demand : Demand) (verdict : Verdict) (xs : List ℤ) (k : ℕ) (x : ℤ) → VerdictFits demand verdict → 1 ≤ k → set (returned demand verdict ++ xs) (flow_index demand k) x ≡ returned demand verdict ++ set xs (k - 1) x
set-behind (Terminals source sink) (Best w) xs zero x fits some = absurd (omega arith)
set-behind (Terminals source sink) (Best w) xs (suc k) x fits some = ap (λ (i : ℕ). w ∷ set xs i x) {x = k} {y = suc k - 1} (omega arith)
set-behind (Terminals source sink) (Infeasible e) xs k x fits some = absurd fits
set-behind _ verdict xs k x fits some = refl

pub length-numbered : (demand : Demand) (arcs : List ArcRow) (flow : List ℤ) → length flow ≡ length (reduced_arcs demand arcs) → length (numbered_flow demand flow) ≡ length arcs
length-numbered (Terminals source sink) arcs [] one_flow = absurd (omega (arith, one_flow))
length-numbered (Terminals source sink) arcs (x ∷ flow) one_flow = omega (arith, one_flow)
length-numbered _ arcs flow one_flow = one_flow
