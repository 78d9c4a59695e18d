use Rattle.std.proofs.Common.{◌≡◌, ◌∙◌, ◌+ℤ◌, ◌-ℤ◌, ◌*ℤ◌, pos, w64, rules, to_z, of_z}
use Rattle.std.specs.Int.{int_wrap, w128}
use Rattle.std.proofs.lemmas.Int.{to_z-of_z}
use Rattle.residual_graph.specs.Residual.{row_at, number_at}
use Rattle.flow_solver.proofs.BalanceLemmas.{cost_more}
use Rattle.flow_solver.proofs.balance.cost_of.Goals as goal

pub loop-k-preserved : goal.loop-k-preserved
loop-k-preserved c =
    let rows = c.args.rows.now in
    let flow = c.args.flow.now in
    let k = c.loop-k.k in
    let result = c.reprice-cost.result in
    let carried : to_z w64 (of_z w64 (number_at flow k)) ≡ number_at flow k = to_z-of_z w64 (number_at flow k) (search rules) in
    let price : to_z w64 (of_z w64 (row_at rows k).cost) ≡ (row_at rows k).cost = to_z-of_z w64 (row_at rows k).cost (search rules) in
    to_z-of_z w128 result (record { sfits = c.reprice-cost.type_inv })
    ∙ cost_more rows flow (to_z w128 c.loop-k.cost-bits) result k c.loop-k-test.true c.requires
    (c.reprice-cost.ensures ∙ (λ i. int_wrap w128 (to_z w128 c.loop-k.cost-bits +ℤ (carried i -ℤ pos 0) *ℤ price i))) c.loop-k.invariant
