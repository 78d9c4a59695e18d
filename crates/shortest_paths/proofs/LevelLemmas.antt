-- Nodes that are come to, or hung on others, along residual arcs that cost nothing.
use Rattle.std.proofs.Common.{◌≡◌, ◌∙◌, ℕ, ◌+◌, ◌/◌, ◌<◌, ℤ, pos, List, length, refl, sym, ap, subst, inl, inr, arith, slice_set}
use Rattle.std.proofs.lemmas.Bool.{cases_eq}
use Rattle.std.proofs.lemmas.List.{get_or-set_same, get_or-set_other, length-set}
use Rattle.dimacs_text.specs.declared.problem.ArcRow.{ArcRow}
use Rattle.residual_graph.specs.Residual.{start_at}
use Rattle.residual_graph.specs.Walk.{end_way}
use Rattle.predecessors.specs.declared.predecessor.Predecessor.{Predecessor}
use Rattle.shortest_paths.specs.Levels.{IsHangingOn, IsLeadingTo}
use Rattle.predecessors.specs.Predecessor.{arc_to, predecessor_at, rank_at, reduced_at, root_node, way_to}
use Rattle.shortest_paths.specs.Search.{IsForest, IsHung, IsOpen, IsReached, IsSearch, come_from, open_count}
use Rattle.shortest_paths.proofs.SearchLemmas.{is_there, one_less, open_in, same_as_before, search_on, still_reached}

-- a node is come to along a residual arc that costs nothing
module _ (arcs : List ArcRow) (x p : List ℤ) (t : List Predecessor) (v end : ℕ) (search : IsSearch arcs x p t) (leads : IsLeadingTo arcs x p t v end) where
  abbrev start : ℕ
  start = start_at arcs (end / 2) (end_way end)

  abbrev by : Predecessor
  by = come_from arcs t end

  v_open : IsOpen t v
  v_open = subst (IsOpen t) leads.ends leads.crosses.to

  v_in : v < length t
  v_in = open_in t v v_open

  pub fewer_open : open_count (slice_set t v by) + 1 ≡ open_count t
  fewer_open = one_less t v by v_in v_open refl

  pub search_level : IsSearch arcs x p (slice_set t v by)
  search_level =
      search_on arcs x p t v by v_in v_open refl search
      (omega (arith, search.ranked start leads.crosses.from, fewer_open))
      (λ deep. (
        record {
          residual = leads.crosses.residual;
          ends = leads.ends;
          reached = still_reached t v by v_in v_open refl start leads.crosses.from;
          deeper = ap (λ (s : Predecessor). s.rank) (is_there t v by v_in v_open refl) ∙ ap (λ (s : Predecessor). s.rank + 1) (sym (same_as_before t v by v_in v_open refl start leads.crosses.from));
        },
        leads.tight,
      ))

-- a node of a forest is hung on another node of the rank before
module _ (arcs : List ArcRow) (p : List ℤ) (t : List Predecessor) (v end : ℕ) (node : v < length t) (forest : IsForest arcs p t) (on : IsHangingOn arcs p t v end) where
  abbrev hung_on : Predecessor
  hung_on = record { end = end; rank = rank_at t v; is_open = (predecessor_at t v).is_open }

  abbrev u : List Predecessor
  u = slice_set t v hung_on

  here : predecessor_at u v ≡ hung_on
  here = get_or-set_same t v hung_on root_node node

  elsewhere : (w : ℕ) → (w ≡ v → ⊥) → predecessor_at u w ≡ predecessor_at t w
  elsewhere w other = get_or-set_other t v w hung_on root_node other

  same_rank : (w : ℕ) → rank_at u w ≡ rank_at t w
  same_rank w = elim (cases_eq w v) [
    | inl same ↦ subst (λ (n : ℕ). rank_at u n ≡ rank_at t n) (sym same) (ap (λ (r : Predecessor). r.rank) here)
    | inr other ↦ ap (λ (r : Predecessor). r.rank) (elsewhere w other)
  ]

  same_open : (w : ℕ) → (predecessor_at u w).is_open ≡ (predecessor_at t w).is_open
  same_open w = elim (cases_eq w v) [
    | inl same ↦ subst (λ (n : ℕ). (predecessor_at u n).is_open ≡ (predecessor_at t n).is_open) (sym same) (ap (λ (r : Predecessor). r.is_open) here)
    | inr other ↦ ap (λ (r : Predecessor). r.is_open) (elsewhere w other)
  ]

  reached_still : (w : ℕ) → IsReached t w → IsReached u w
  reached_still w reached = (omega (arith, reached.0, length-set t v hung_on), same_open w ∙ reached.1)

  reached_before : (w : ℕ) → IsReached u w → IsReached t w
  reached_before w reached = (omega (arith, reached.0, length-set t v hung_on), sym (same_open w) ∙ reached.1)

  hung_here : IsHung arcs u v (end / 2) (end_way end)
  hung_here = record {
    is_arc = on.is_arc;
    ends = on.ends;
    reached = reached_still (start_at arcs (end / 2) (end_way end)) on.reached;
    deeper = same_rank v ∙ on.deeper ∙ ap (λ (n : ℕ). n + 1) (sym (same_rank (start_at arcs (end / 2) (end_way end))));
  }

  hung_as_before : (w : ℕ) → IsHung arcs t w (arc_to t w) (way_to t w) → IsHung arcs u w (arc_to t w) (way_to t w)
  hung_as_before w is = record {
    is_arc = is.is_arc;
    ends = is.ends;
    reached = reached_still (start_at arcs (arc_to t w) (way_to t w)) is.reached;
    deeper = same_rank w ∙ is.deeper ∙ ap (λ (n : ℕ). n + 1) (sym (same_rank (start_at arcs (arc_to t w) (way_to t w))));
  }

  pub forest_hung : IsForest arcs p u
  forest_hung = record {
    sized = length-set t v hung_on ∙ forest.sized;
    hung = λ w reached deep. elim (cases_eq w v) [
      | inl same ↦ subst (λ (n : ℕ). IsHung arcs u n (arc_to u n) (way_to u n)) (sym same) (subst (λ (r : Predecessor). IsHung arcs u v (r.end / 2) (end_way r.end)) (sym here) hung_here)
      | inr other ↦ subst (λ (r : Predecessor). IsHung arcs u w (r.end / 2) (end_way r.end)) (sym (elsewhere w other)) (hung_as_before w (forest.hung w (reached_before w reached) (omega (arith, deep, same_rank w))))
    ];
    tight = λ w reached deep. elim (cases_eq w v) [
      | inl same ↦ subst (λ (n : ℕ). reduced_at arcs p (arc_to u n) (way_to u n) ≡ pos 0) (sym same) (subst (λ (r : Predecessor). reduced_at arcs p (r.end / 2) (end_way r.end) ≡ pos 0) (sym here) on.tight)
      | inr other ↦ subst (λ (r : Predecessor). reduced_at arcs p (r.end / 2) (end_way r.end) ≡ pos 0) (sym (elsewhere w other)) (forest.tight w (reached_before w reached) (omega (arith, deep, same_rank w)))
    ];
  }
