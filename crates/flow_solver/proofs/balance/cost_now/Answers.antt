use Rattle.std.proofs.Common.{◌≡◌, ◌∙◌, ℤ, List, pos, arith, subst, sym, ◌<◌, length, slice_index_or, slice_set, w64, rules, to_z, of_z}
use Rattle.std.specs.Int.{w128}
use Rattle.std.proofs.lemmas.Int.{to_z-of_z}
use Rattle.std.proofs.lemmas.List.{get_or_default}
use Rattle.residual_graph.specs.Residual.{row_at, number_at}
use Rattle.tracked.specs.Touched.{NameChanges}
use Rattle.flow_solver.specs.Balance.{IsWrappedCost}
use Rattle.flow_solver.proofs.BalanceLemmas.{cost_step, part_step, part_past, part_ends}
use Rattle.flow_solver.proofs.balance.cost_now.Goals as goal
use Rattle.flow_solver.proofs.balance.cost_now.Goals.{then-k-rows, else-k-rows}

pub loop-j-preserved : goal.loop-j-preserved
loop-j-preserved c =
    let places = c.places-places.result.now in
    let kept = c.whole-kept.result.now in
    let entries = c.args.flow.now.entries in
    let z = c.loop-j.invariant.0 in
    let part = c.loop-j.invariant.1 in
    let apart = c.places-places.ensures.apart in
    elim c.if-k-rows.branch [
      | then-k-rows w ↦ (let place = slice_index_or c.places-places.result.now c.loop-j.j 0 in
          let place_in : slice_index_or places c.loop-j.j 0 < length c.args.rows.now = w.if-k-rows.true in
          let entry : to_z w64 (of_z w64 w.get.result) ≡ number_at entries place = to_z-of_z w64 w.get.result (search rules) ∙ w.get.ensures ∙ get_or_default entries place w.get.result (pos 0) (omega (arith, c.requires.as_many)) in
          let was = to_z-of_z w64 (number_at kept place) (search rules) in
          let price = to_z-of_z w64 (row_at c.args.rows.now place).cost (search rules) in
          let result_is = w.now-is ∙ to_z-of_z w128 w.reprice-now.result (record { sfits = w.reprice-now.type_inv }) ∙ (rw (entry, was, price) at w.reprice-now.ensures) in (
            slice_set z (slice_index_or places c.loop-j.j 0) (number_at entries (slice_index_or places c.loop-j.j 0)),
            part_step places kept entries c.loop-j.j z (omega arith) apart part (omega (arith, c.requires.as_many, c.whole-kept.ensures.as_many)),
            cost_step places kept entries c.loop-j.j z (omega arith) apart part c.args.rows.now (to_z w128 c.loop-j.now-bits) (to_z w128 c.if-k-rows.now-bits) (omega (arith, c.requires.as_many, c.whole-kept.ensures.as_many)) place_in result_is c.loop-j.invariant.2,
          ))
      | else-k-rows w ↦ (z, part_past places kept entries c.loop-j.j z (omega arith) apart part (omega (arith, c.requires.as_many, c.whole-kept.ensures.as_many)) (sym c.whole-kept.ensures.as_many), w.now-is ∙ c.loop-j.invariant.2)
    ]

pub returns : goal.returns
returns c =
    let places = c.places-places.result.now in
    let kept = c.whole-kept.result.now in
    let entries = c.args.flow.now.entries in
    let named : NameChanges 0 places kept entries = subst (λ (xs : List ℤ). NameChanges 0 places xs entries) (sym c.whole-kept.ensures.value) c.places-places.ensures.all_named in
    subst (λ x. IsWrappedCost c.args.rows.now x (to_z w128 c.loop-j.now-bits))
    (part_ends places kept entries c.loop-j.j c.loop-j.invariant.0 (omega arith) (sym c.whole-kept.ensures.as_many) named c.loop-j.invariant.1)
    c.loop-j.invariant.2
