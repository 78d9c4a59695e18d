use Rattle.std.proofs.Common.{◌≡◌, ◌∙◌, ◌<◌, pos, length, arith, inl, inr, rules, subst, sym, slice_set, w64, to_z, of_z}
use Rattle.std.proofs.lemmas.Bool.{cases_eq}
use Rattle.std.proofs.lemmas.List.{get_or-set_other, get_or-set_same}
use Rattle.residual_graph.specs.Residual.{number_at}
use Rattle.predecessors.specs.Predecessor.{predecessor_at}
use Rattle.shortest_paths.specs.Search.{lowered_by}
use Rattle.shortest_paths.proofs.search.lower_reached.Goals as goal

pub loop-v-preserved : goal.loop-v-preserved
loop-v-preserved c =
    let p = c.args.potentials.now in
    let q = c.loop-v.potentials in
    let v = c.loop-v.v in
    let t = c.args.predecessors.now in
    let fall = to_z w64 (of_z w64 c.args.fall) in
    let value = to_z w64 (of_z w64 c.lowered.result) in
    let v_in : v < length q = omega arith in
    let value_is : value ≡ lowered_by (predecessor_at t v).is_open (number_at p v) fall = search rules in
    record {
      done = λ w lt. (elim (cases_eq w v) [
        | inl same ↦ subst (λ i. number_at (slice_set q v value) i ≡ lowered_by (predecessor_at t i).is_open (number_at p i) fall) (sym same) (get_or-set_same q v value (pos 0) v_in ∙ value_is)
        | inr other ↦ get_or-set_other q v w value (pos 0) other ∙ c.loop-v.invariant.done w (omega (arith, lt, other))
      ]);
      rest = λ w le. get_or-set_other q v w value (pos 0) (λ e. omega (arith, le, e)) ∙ c.loop-v.invariant.rest w (omega (arith, le));
    }
