use Rattle.std.proofs.Common.{◌≡◌, ◌∙◌, ℕ, ℤ, pos, ◌∷◌, ◌≤ℤ◌, ap, arith, rules, subst, sym, w64, to_z, of_z, SFits}
use Rattle.std.proofs.lemmas.Int.{ints, clamps, to_z-of_z}
use Rattle.dimacs_text.specs.declared.problem.ArcRow.{ArcRow}
use Rattle.residual_graph.specs.declared.residual.ResidualArc.{ResidualArc}
use Rattle.residual_graph.specs.declared.residual.Way.{Way}
use Rattle.residual_graph.specs.declared.residual.Way.TheVariants.{Backward, Forward}
use Rattle.residual_graph.specs.Residual.{IsWithinRow, number_at, room_of, row_at, start_of}
use Rattle.predecessors.specs.Predecessor.{rank_at}
use Rattle.shortest_paths.specs.Search.{IsReached}
use Rattle.augmentation.specs.Path.{before, hop_to, hops_before, root_to}
use Rattle.augmentation.proofs.PathLemmas.{root_back, step_back}
use Rattle.flow_changes.proofs.PushLemmas.{HasRoom-weaker}
use Rattle.augmentation.proofs.augment.bottleneck.Goals as goal

room_at_least_0 : (a : ArcRow) (x : ℤ) (way : Way) → IsWithinRow a x → pos 0 ≤ℤ room_of a x way
room_at_least_0 a x Forward within = omega (arith, ints, within.cap_kept)
room_at_least_0 a x Backward within = omega (arith, ints, within.low_kept)

pub loop-node-preserved : goal.loop-node-preserved
loop-node-preserved c =
    let rows = c.args.path.graph.now.rows in
    let x = c.args.flow.now in
    let s = c.args.path.predecessors.now in
    let v = c.loop-node.node in
    let h = hop_to s v in
    let inv = c.loop-node.invariant in
    let came = c.requires.path.hung v inv.reached (omega arith) in
    let hop_is : c.arc-hop.result ≡ h = c.arc-hop.ensures in
    let row_is : c.row-row.result ≡ row_at rows h.arc = c.row-row.ensures ∙ ap (λ (a : ResidualArc). row_at rows a.arc) hop_is in
    let at_node : c.start-node.result ≡ before rows s v = c.start-node.ensures ∙ (λ i. start_of (row_is i) (hop_is i).way) in
    let entry_fits : SFits w64 (number_at x c.arc-hop.result.arc) = search rules in
    let entry = to_z-of_z w64 (number_at x c.arc-hop.result.arc) entry_fits ∙ ap (λ (a : ResidualArc). number_at x a.arc) hop_is in
    let room_is : c.room.result ≡ room_of (row_at rows h.arc) (number_at x h.arc) h.way = c.room.ensures ∙ (λ i. room_of (row_is i) (entry i) (hop_is i).way) in
    let fits : SFits w64 c.min-room.result = search rules in
    let same : to_z w64 (of_z w64 c.min-room.result) ≡ c.min-room.result = to_z-of_z w64 c.min-room.result fits in
    let low = c.requires.flow.within h.arc came.is_arc in
    let below : to_z w64 (of_z w64 c.min-room.result) ≤ℤ to_z w64 c.loop-node.room-bits = omega (arith, ints, clamps, same, c.min-room.ensures.value) in
    record {
      reached = subst (IsReached s) (sym at_node) came.reached;
      at_least_0 = omega (arith, ints, clamps, same, c.min-room.ensures.value, inv.at_least_0, room_at_least_0 _ _ h.way low, room_is);
      some = λ paths. omega (arith, ints, clamps, same, c.min-room.ensures.value, inv.some paths, (paths v inv.reached (omega arith)).residual.has_room, room_is);
      at_most = omega (arith, ints, below, inv.at_most);
      root = ap (root_to rows s) at_node ∙ sym (root_back rows s c.requires.path.hung v inv.reached (omega arith)) ∙ inv.root;
      room = (
        h ∷ inv.room.0,
        ap (λ (u : ℕ). hops_before rows s (rank_at s u) u (h ∷ inv.room.0)) at_node ∙ sym (step_back rows s c.requires.path.hung v inv.room.0 inv.reached (omega arith)) ∙ inv.room.1,
        (omega (arith, ints, clamps, same, c.min-room.ensures.value, room_is), HasRoom-weaker rows x (to_z w64 c.loop-node.room-bits) _ inv.room.0 below inv.room.2),
      );
    }
