use Rattle.std.proofs.Common.{◌≡◌, ◌∙◌, ◌<◌, ℕ, ℤ, List, ◌∷◌, length, pos, ap, arith, rules, subst, sym, slice_set, w64, to_z, of_z, SFits}
use Rattle.std.proofs.lemmas.Int.{ints, to_z-of_z}
use Rattle.std.proofs.lemmas.List.{get_or_default}
use Rattle.std.specs.Prelude.{slice_index_or}
use Rattle.residual_graph.specs.declared.residual.ResidualArc.{ResidualArc}
use Rattle.residual_graph.specs.Residual.{IsWithinRow, number_at, row_at, start_at}
use Rattle.predecessors.specs.Predecessor.{rank_at}
use Rattle.flow_changes.specs.Push.{HasRoom, moved}
use Rattle.augmentation.specs.Path.{before, hop_to, hops_before}
use Rattle.augmentation.proofs.PathLemmas.{IsOnward, onward_more, push_before, room_after, step_back}
use Rattle.flow_changes.proofs.PushLemmas.{IsWithin-moved, push_elsewhere}
use Rattle.tracked.proofs.TrackedLemmas.{IsWritten-trans}
use Rattle.augmentation.proofs.augment.shift.Goals as goal
use Rattle.augmentation.proofs.augment.shift.Goals.{After-get}

-- the hop back from the node, on which nothing was moved yet
record IsHopBack (c : After-get) : Type 0 where
  onward : IsOnward c.args.path.graph.now.rows c.args.path.predecessors.now c.args.path.target (before c.args.path.graph.now.rows c.args.path.predecessors.now c.loop-node.node) (hop_to c.args.path.predecessors.now c.loop-node.node ∷ c.loop-node.invariant.hops.0)
  is_arc : (hop_to c.args.path.predecessors.now c.loop-node.node).arc < length c.args.path.graph.now.rows
  entry : to_z w64 (of_z w64 c.get.result) ≡ number_at c.loop-node.flow.entries (hop_to c.args.path.predecessors.now c.loop-node.node).arc
  within : IsWithinRow (row_at c.args.path.graph.now.rows (hop_to c.args.path.predecessors.now c.loop-node.node).arc) (moved (hop_to c.args.path.predecessors.now c.loop-node.node).way (number_at c.loop-node.flow.entries (hop_to c.args.path.predecessors.now c.loop-node.node).arc) (to_z w64 (of_z w64 c.args.amount)))

hop_back : (c : After-get) → 0 < rank_at c.args.path.predecessors.now c.loop-node.node → IsHopBack c
hop_back c deep =
    let rows = c.args.path.graph.now.rows in
    let x = c.args.flow.now.entries in
    let s = c.args.path.predecessors.now in
    let v = c.loop-node.node in
    let h = hop_to s v in
    let m = to_z w64 (of_z w64 c.args.amount) in
    let same : m ≡ c.args.amount = to_z-of_z w64 c.args.amount c.ranges.amount in
    let hops = c.loop-node.invariant.hops in
    let came = c.requires.path.hung v hops.2.reached deep in
    let more = onward_more rows s c.requires.path.hung c.args.path.target v hops.0 deep hops.2 in
    let kept : number_at c.loop-node.flow.entries h.arc ≡ number_at x h.arc = ap (λ (y : List ℤ). number_at y h.arc) hops.3 ∙ push_elsewhere hops.0 m x h.arc more.apart.1 in
    let hop_is : c.arc-hop.result ≡ h = c.arc-hop.ensures in
    let k_in : h.arc < length c.loop-node.flow.entries = omega (arith, c.loop-node.invariant.written.same_length, c.requires.flow.same_length, came.is_arc) in
    let read : c.get.result ≡ number_at c.loop-node.flow.entries h.arc = c.get.ensures ∙ ap (λ (a : ResidualArc). slice_index_or c.loop-node.flow.entries a.arc c.get.result) hop_is ∙ get_or_default c.loop-node.flow.entries h.arc c.get.result (pos 0) k_in in
    let fits : SFits w64 c.get.result = search rules in
    let path : HasRoom rows x c.args.amount (hops_before rows s (rank_at s (before rows s v)) (before rows s v) (h ∷ hops.0)) =
    subst (HasRoom rows x c.args.amount) (sym hops.1 ∙ step_back rows s c.requires.path.hung v hops.0 hops.2.reached deep) c.requires.room in
    let here = (room_after rows s x c.args.amount (rank_at s (before rows s v)) (before rows s v) (h ∷ hops.0) path).0 in
    let row = c.requires.flow.rows h.arc came.is_arc in
    record {
      onward = more;
      is_arc = came.is_arc;
      entry = to_z-of_z w64 c.get.result fits ∙ read;
      within = subst (λ (y : ℤ). IsWithinRow (row_at rows h.arc) (moved h.way y m)) (sym kept)
          (IsWithin-moved _ (row_at rows h.arc) (number_at x h.arc) m h.way row (c.requires.flow.within h.arc came.is_arc) (omega (arith, ints, same, c.requires.amount)) (omega (arith, ints, same, here)));
    }

pub shifted-moved-requires : goal.shifted-moved-requires
shifted-moved-requires c =
    let back = hop_back (goal.at.shifted-moved-requires c).After-get (omega arith) in
    let row = c.requires.flow.rows (hop_to c.args.path.predecessors.now c.loop-node.node).arc back.is_arc in
    rw (c.arc-hop.ensures, back.entry) (omega (arith, ints, back.within.low_kept, back.within.cap_kept, row.low_at_least_0, row.cap_in))

pub loop-node-preserved : goal.loop-node-preserved
loop-node-preserved c =
    let rows = c.args.path.graph.now.rows in
    let x = c.args.flow.now.entries in
    let s = c.args.path.predecessors.now in
    let v = c.loop-node.node in
    let h = hop_to s v in
    let m = to_z w64 (of_z w64 c.args.amount) in
    let hops = c.loop-node.invariant.hops in
    let back = hop_back (goal.at.loop-node-preserved c).After-get (omega arith) in
    let hop_is : c.arc-hop.result ≡ h = c.arc-hop.ensures in
    let at_node : c.start-node.result ≡ before rows s v = c.start-node.ensures ∙ ap (λ (a : ResidualArc). start_at rows a.arc a.way) hop_is in
    let fits : SFits w64 c.shifted-moved.result = search rules in
    let moved_is : to_z w64 (of_z w64 c.shifted-moved.result) ≡ moved h.way (number_at c.loop-node.flow.entries h.arc) m =
    to_z-of_z w64 c.shifted-moved.result fits ∙ c.shifted-moved.ensures ∙ (λ i. moved (hop_is i).way (back.entry i) m) in
    record {
      written = IsWritten-trans _ _ _ c.loop-node.invariant.written c.set.ensures.written;
      hops = (
        h ∷ hops.0,
        ap (λ (u : ℕ). hops_before rows s (rank_at s u) u (h ∷ hops.0)) at_node ∙ sym (step_back rows s c.requires.path.hung v hops.0 hops.2.reached (omega arith)) ∙ hops.1,
        subst (λ (u : ℕ). IsOnward rows s c.args.path.target u (h ∷ hops.0)) (sym at_node) back.onward,
        c.set.ensures.entries ∙ (λ i. slice_set c.loop-node.flow.entries (hop_is i).arc (moved_is i)) ∙ push_before rows h hops.0 m x c.loop-node.flow.entries back.onward.apart hops.3,
      );
    }
