-- What one search, one change of potentials and one push keep.
use Rattle.flow_changes.specs.Limits.{left_limit}
use Rattle.std.proofs.Common.{◌≡◌, ℕ, ◌+◌, ◌<◌, ◌≤◌, ℤ, pos, List, [], length, refl, sym, subst, arith}
use Rattle.std.specs.Prelude.{◌<ℤ◌, Bool, false, true}
use Rattle.std.proofs.lemmas.Int.{ints}
use Rattle.dimacs_text.specs.declared.problem.ArcRow.{ArcRow}
use Rattle.predecessors.specs.declared.predecessor.Predecessor.{Predecessor}
use Rattle.residual_graph.specs.Graph.{GraphView}
use Rattle.residual_graph.specs.Residual.{IsReducedCostOptimal, NoneBelow, number_at}
use Rattle.predecessors.specs.Predecessor.{rank_at}
use Rattle.shortest_paths.specs.Search.{HasFound, IsForest, IsReached}
use Rattle.shortest_paths.proofs.StepLemmas.{forest_of}
use Rattle.flow_changes.specs.Push.{IsTight, IsTightArc, ArePushes, AreSmall, one_if}
use Rattle.augmentation.specs.Path.{before, hop_to, path_to, root_to, IsAugmented}
use Rattle.augmentation.specs.Pseudoflow.{IsCertifiedIn, IsCertifiedPseudoflow}
use Rattle.augmentation.specs.Pushes.{HavePushed}
use Rattle.augmentation.specs.ScratchView.{ScratchView}
use Rattle.tracked.specs.Tracked.{TrackedView}
use Rattle.tracked.proofs.TrackedLemmas.{IsWritten-same, IsWritten-trans}
use Rattle.cuts.proofs.ExcessLemmas.{left-small}
use Rattle.augmentation.proofs.PathLemmas.{IsOnward, hops_tight, path_onward, root_depth}
use Rattle.flow_changes.proofs.PushesLemmas.{ArePushes-more, ArePushes-none, IsMoving, IsRoom, moving_after, one_push}
use Rattle.flow_changes.proofs.PushLemmas.{NoneBelow-along}

-- ---- pushes one after the other

pub HavePushed-none : {g : GraphView} {x : TrackedView ℤ} {e : List ℤ} {s : ScratchView} → IsCertifiedIn g x e s → HavePushed g 0 x x e e s
HavePushed-none {g} {x} {e} {s} state = record { written = IsWritten-same x; state = state; pushes = ArePushes-none g.rows x.entries e }

-- between the two only the scratch may change
pub HavePushed-more : {g : GraphView} {m n : ℕ} {x y z : TrackedView ℤ} {e f h : List ℤ} {s t : ScratchView} → HavePushed g m x y e f s → HavePushed g n y z f h t → HavePushed g (m + n) x z e h t
HavePushed-more {g} {m} {n} {x} {y} {z} {e} {f} {h} {s} {t} first rest = record {
  written = IsWritten-trans x y z first.written rest.written;
  state = rest.state;
  pushes = ArePushes-more first.pushes rest.pushes;
}

-- ---- a node of a forest

module _ (arcs : List ArcRow) (p : List ℤ) (s : List Predecessor) (t : ℕ) (forest : IsForest arcs p s) (reached : IsReached s t) where
  onward : IsOnward arcs s t (root_to arcs s t) (path_to arcs s t)
  onward = path_onward arcs s forest.hung t reached

  tight_step : (v : ℕ) → IsReached s v → 0 < rank_at s v → IsTightArc arcs p (hop_to s v).arc (hop_to s v).way × IsReached s (before arcs s v) × (rank_at s v ≡ rank_at s (before arcs s v) + 1)
  tight_step v there deep =
      let by = forest.hung v there deep in
      (omega (arith, ints, forest.tight v there deep), by.reached, by.deeper)

  tight_to_target : IsTight arcs p (path_to arcs s t)
  tight_to_target = hops_tight arcs s p (IsReached s) tight_step (rank_at s t) t [] reached refl tt

  -- flow is pushed along the path to it
  module _ (x e y f : List ℤ) (certified : IsReducedCostOptimal arcs x p) (small : AreSmall e) (sized : length e ≡ length p) (step : IsAugmented arcs s t x e y f) where
    abbrev moving : IsMoving (length p) arcs x e
    moving = record { flow = certified.flow; excess_sized = sized; small = small }

    abbrev room : IsRoom arcs x step.amount (path_to arcs s t) (root_to arcs s t) t
    room = record { leads = onward.leads; simple = onward.simple; apart = onward.apart; room = step.room }

    root_in : root_to arcs s t < length p
    root_in = omega (arith, onward.reached.0, forest.sized)

    pub one_pushed : ArePushes arcs 1 x e y f
    one_pushed = subst (λ (z : List ℤ). ArePushes arcs 1 x e z f) (sym step.flow) (one_push (length p) arcs x e (path_to arcs s t) (root_to arcs s t) t step.amount f moving room step.at_least_1 root_in step.in_excess step.in_deficit step.transfer)

    pub moved_on : IsMoving (length p) arcs y f
    moved_on = subst (λ (z : List ℤ). IsMoving (length p) arcs z f) (sym step.flow) (moving_after (length p) arcs x e (path_to arcs s t) (root_to arcs s t) t step.amount f moving room step.at_least_1 root_in step.in_excess step.in_deficit step.transfer)

    pub certified_after : IsReducedCostOptimal arcs y p
    certified_after = record {
      flow = moved_on.flow;
      potentials = certified.potentials;
      none_below = subst (λ (z : List ℤ). NoneBelow arcs z p) (sym step.flow) (NoneBelow-along arcs p (path_to arcs s t) step.amount x certified.none_below tight_to_target);
    }

-- the path by which a search came to a node in deficit begins in excess
pub root_in_excess : (arcs : List ArcRow) (x p e : List ℤ) (s : List Predecessor) (t : ℕ) → HasFound arcs x p e s t → pos 0 <ℤ number_at e (root_to arcs s t)
root_in_excess arcs x p e s t found =
    let forest = forest_of found.search in
    found.roots (root_to arcs s t) (onward arcs p s t forest found.reached).reached (root_depth arcs s forest.hung (rank_at s t) t found.reached refl)

-- a push along a path of the forest, or none: what stands then
pub record IsPushedOn (g : GraphView) (p : List ℤ) (done : Bool) (x e y f : List ℤ) : Type 0 where
  pub state : IsCertifiedPseudoflow g y p f
  pub pushed : ArePushes g.rows (one_if done) x e y f

pub pushed_on : (g : GraphView) (x p e : List ℤ) (s : List Predecessor) (t : ℕ) (y f : List ℤ) (done : Bool) → IsForest g.rows p s → IsReached s t → IsCertifiedPseudoflow g x p e
    → (done ≡ true → IsAugmented g.rows s t x e y f) → (done ≡ false → (y ≡ x) × (f ≡ e)) → IsPushedOn g p done x e y f
pushed_on g x p e s t y f true forest reached state did not_done =
    let step = did refl in
    let moved = moved_on g.rows p s t forest reached x e y f state.certified state.small state.excess_in step in
    record {
      state = record {
        graph = state.graph;
        certified = certified_after g.rows p s t forest reached x e y f state.certified state.small state.excess_in step;
        excess_in = moved.excess_sized;
        small = moved.small;
      };
      pushed = one_pushed g.rows p s t forest reached x e y f state.certified state.small state.excess_in step;
    }
pushed_on g x p e s t y f false forest reached state did not_done =
    let same = not_done refl in
    record {
      state = subst (λ (z : List ℤ). IsCertifiedPseudoflow g z p f) (sym same.0) (subst (IsCertifiedPseudoflow g x p) (sym same.1) state);
      pushed = subst (λ (z : List ℤ). ArePushes g.rows 0 x e z f) (sym same.0) (subst (ArePushes g.rows 0 x e x) (sym same.1) (ArePushes-none g.rows x e));
    }

-- whatever is pushed, the count fits a word
pub count_fits : {g : GraphView} {x p e y f : List ℤ} {n : ℕ} → IsCertifiedPseudoflow g x p e → ArePushes g.rows n x e y f → n ≤ left_limit
count_fits {g} {x} {p} {e} {y} {f} {n} state pushed =
    let small = left-small (length p) e state.small state.excess_in state.certified.flow.few_nodes in
    omega (arith, small, pushed.count)
