use Rattle.std.proofs.Common.{◌≡◌, ◌∙◌, ℤ, List, pos, ◌<◌, length, ap, arith, subst, sym, slice_index_or, slice_set, w64, rules, to_z, of_z}
use Rattle.std.proofs.lemmas.Int.{to_z-of_z}
use Rattle.std.proofs.lemmas.List.{get_or_default}
use Rattle.residual_graph.specs.Residual.{number_at}
use Rattle.flow_solver.specs.Balance.{IsWrappedExcess}
use Rattle.flow_solver.proofs.BalanceLemmas.{IsPartWay, excess_step, named_back, part_step, part_past, part_ends}
use Rattle.flow_solver.proofs.balance.carry_back.Goals as goal
use Rattle.flow_solver.proofs.balance.carry_back.Goals.{then-k-rows, else-k-rows}

pub loop-j-preserved : goal.loop-j-preserved
loop-j-preserved c =
    let places = c.places-places.result.now in
    let rows = c.args.rows.now in
    let kept = c.whole-kept.result.now in
    let entries = c.args.flow.now.entries in
    let z = c.loop-j.invariant.1 in
    let part = c.loop-j.invariant.2 in
    let apart = c.places-places.ensures.apart in
    let place = slice_index_or c.places-places.result.now c.loop-j.j 0 in
    elim c.if-k-rows.branch [
      | then-k-rows w ↦ (let place_in : slice_index_or places c.loop-j.j 0 < length c.args.rows.now = w.if-k-rows.true in
          let f = w.carry_over.new.excess in
          let next = slice_set z place (number_at kept place) in
          let entry : to_z w64 (of_z w64 w.get.result) ≡ number_at entries place = to_z-of_z w64 w.get.result (search rules) ∙ w.get.ensures ∙ get_or_default entries place w.get.result (pos 0) (omega (arith, c.requires.as_many)) in
          let was = to_z-of_z w64 (number_at kept place) (search rules) in
          let carried = rw (entry, was) at w.carry_over.ensures in (
            ap (λ (e : List ℤ). length e) w.excess-is ∙ w.carry_over.ensures.same_length ∙ c.loop-j.invariant.0,
            next,
            part_step places entries kept c.loop-j.j z (omega arith) apart part (omega (arith, c.requires.as_many)),
            λ supply is. rw w.excess-is (excess_step places entries kept c.loop-j.j z (omega arith) apart part rows supply c.loop-j.excess f (sym c.requires.as_many) place_in carried (c.loop-j.invariant.3 supply is)),
          ))
      | else-k-rows w ↦ (
        ap (λ (e : List ℤ). length e) w.excess-is ∙ c.loop-j.invariant.0,
        z,
        part_past places entries kept c.loop-j.j z (omega arith) apart part (omega (arith, c.requires.as_many)) c.whole-kept.ensures.as_many,
        λ supply is. rw w.excess-is (c.loop-j.invariant.3 supply is),
      )
    ]

pub carry_over-requires-clause-tail_in : goal.carry_over-requires-clause-tail_in
carry_over-requires-clause-tail_in c = omega (arith, (c.requires.ends _ c.if-k-rows.true).0, c.loop-j.invariant.0)

pub carry_over-requires-clause-head_in : goal.carry_over-requires-clause-head_in
carry_over-requires-clause-head_in c = omega (arith, (c.requires.ends _ c.if-k-rows.true).1, c.loop-j.invariant.0)

pub returns-clause-excess : goal.returns-clause-excess
returns-clause-excess c =
    let rows = c.args.rows.now in
    let places = c.places-places.result.now in
    let kept = c.args.flow.now.whole in
    let entries = c.args.flow.now.entries in
    let sized : length kept ≡ length entries = ap length (sym c.whole-kept.ensures.value) ∙ c.whole-kept.ensures.as_many in
    λ supply is. subst (λ (x : List ℤ). IsWrappedExcess rows supply x c.loop-j.excess)
    (part_ends places entries kept c.loop-j.j c.loop-j.invariant.1 (omega arith) sized (named_back places kept entries sized c.places-places.ensures.all_named)
    (subst (λ (x : List ℤ). IsPartWay places entries x c.loop-j.j c.loop-j.invariant.1) c.whole-kept.ensures.value c.loop-j.invariant.2))
    (c.loop-j.invariant.3 supply is)
