-- How searches between potentials go on: potentials are shifted, and a node is come to.
use Rattle.std.proofs.Common.{◌≡◌, ◌∙◌, ℕ, ◌+◌, ◌/◌, ◌<◌, ◌⊎◌, ℤ, pos, List, length, refl, sym, ap, subst, inl, inr, arith, cond, slice_set}
use Rattle.std.specs.Prelude.{Bool, true, false}
use Rattle.std.proofs.lemmas.Bool.{cases_eq, cases_lt, false≢true}
use Rattle.std.proofs.lemmas.List.{get_or-set_same, get_or-set_other, get_or_past, length-set}
use Rattle.std.proofs.lemmas.List.Sums.{count_by-le-length, sum_by-set}
use Rattle.dimacs_text.specs.declared.problem.ArcRow.{ArcRow}
use Rattle.residual_graph.specs.Residual.{start_at}
use Rattle.residual_graph.specs.Walk.{end_way}
use Rattle.predecessors.specs.declared.predecessor.Predecessor.{Predecessor}
use Rattle.predecessors.specs.Predecessor.{arc_to, open_node, predecessor_at, reduced_at, root_node, way_to}
use Rattle.shortest_paths.specs.Search.{IsCameBy, IsOpen, IsReached, IsSearch, open_count}

pub open_or_reached : (t : List Predecessor) (v : ℕ) → v < length t → IsOpen t v ⊎ IsReached t v
open_or_reached t v lt = either (predecessor_at t v).is_open refl
  where
    either : (b : Bool) → (predecessor_at t v).is_open ≡ b → IsOpen t v ⊎ IsReached t v
    either true is = inl is
    either false is = inr (lt, is)

pub not_both : (t : List Predecessor) (v : ℕ) → IsOpen t v → IsReached t v → ⊥
not_both t v is_open reached = false≢true (sym reached.1 ∙ is_open)

-- an open node is one of the nodes
pub open_in : (t : List Predecessor) (v : ℕ) → IsOpen t v → v < length t
open_in t v is_open = elim (cases_lt v (length t)) [
  | inl lt ↦ lt
  | inr past ↦ absurd (false≢true (sym (ap (λ (e : Predecessor). e.is_open) (get_or_past t v root_node past)) ∙ is_open))
]

-- ---- a node is come to

-- one node less is open where an open one is come to
count-set : (t : List Predecessor) (v : ℕ) (e : Predecessor) → v < length t → open_count (slice_set t v e) + cond (predecessor_at t v).is_open 1 0 ≡ open_count t + cond e.is_open 1 0
count-set t v e lt = sum_by-set (λ (r : Predecessor). cond r.is_open 1 0) t v e root_node lt

pub one_reached : (t : List Predecessor) (v : ℕ) → IsReached t v → open_count t < length t
one_reached t v reached =
    let weight : Bool → ℕ = λ b. cond b 1 0 in
    omega (arith, count-set t v open_node reached.0, ap weight reached.1, count_by-le-length (λ (e : Predecessor). e.is_open) (slice_set t v open_node), length-set t v open_node)

module _ (t : List Predecessor) (v : ℕ) (e : Predecessor) (node : v < length t) (was_open : IsOpen t v) (now_reached : e.is_open ≡ false) where
  abbrev u : List Predecessor
  u = slice_set t v e

  pub one_less : open_count u + 1 ≡ open_count t
  one_less =
      let weight : Bool → ℕ = λ b. cond b 1 0 in
      omega (arith, count-set t v e node, ap weight was_open, ap weight now_reached)

  pub is_there : predecessor_at u v ≡ e
  is_there = get_or-set_same t v e root_node node

  -- a node that was reached is as it was
  pub same_as_before : (w : ℕ) → IsReached t w → predecessor_at u w ≡ predecessor_at t w
  same_as_before w reached = get_or-set_other t v w e root_node (λ same. not_both t v was_open (subst (IsReached t) same reached))

  pub still_reached : (w : ℕ) → IsReached t w → IsReached u w
  still_reached w reached = (omega (arith, reached.0, length-set t v e), ap (λ (r : Predecessor). r.is_open) (same_as_before w reached) ∙ reached.1)

  pub new_or_before : (w : ℕ) → IsReached u w → (w ≡ v) ⊎ IsReached t w
  new_or_before w reached = elim (cases_eq w v) [
    | inl same ↦ inl same
    | inr other ↦ inr (omega (arith, reached.0, length-set t v e), ap (λ (r : Predecessor). r.is_open) (sym (get_or-set_other t v w e root_node other)) ∙ reached.1)
  ]

  pub open_before : (w : ℕ) → IsOpen u w → IsOpen t w
  open_before w is_open = elim (open_or_reached t w (omega (arith, open_in u w is_open, length-set t v e))) [
    | inl before ↦ before
    | inr reached ↦ absurd (not_both u w is_open (still_reached w reached))
  ]

  -- what is so of each node that was reached, and of this one, is so of all
  pub all_reached : (P : ℕ → Predecessor → Type 0) → ((w : ℕ) → IsReached t w → P w (predecessor_at t w)) → P v e → (w : ℕ) → IsReached u w → P w (predecessor_at u w)
  all_reached P before here w reached = elim (new_or_before w reached) [
    | inl same ↦ subst (λ (n : ℕ). P n (predecessor_at u n)) (sym same) (subst (P v) (sym is_there) here)
    | inr was ↦ subst (P w) (sym (same_as_before w was)) (before w was)
  ]

-- the search goes on: a node is come to, as a root or along a residual arc that costs nothing
module _ (arcs : List ArcRow) (x p : List ℤ) (t : List Predecessor) (v : ℕ) (e : Predecessor) (node : v < length t) (was_open : IsOpen t v) (now_reached : e.is_open ≡ false)
    (search : IsSearch arcs x p t) (rank_fits : e.rank + open_count (slice_set t v e) < length t)
    (came : 0 < e.rank → IsCameBy arcs x (slice_set t v e) v (e.end / 2) (end_way e.end) × (reduced_at arcs p (e.end / 2) (end_way e.end) ≡ pos 0))
  where
    abbrev after : List Predecessor
    after = slice_set t v e

    came_before : (w : ℕ) → IsCameBy arcs x t w (arc_to t w) (way_to t w) → IsReached t w → IsCameBy arcs x after w (arc_to t w) (way_to t w)
    came_before w by reached =
        let start = start_at arcs (arc_to t w) (way_to t w) in
        record {
          residual = by.residual;
          ends = by.ends;
          reached = still_reached t v e node was_open now_reached start by.reached;
          deeper = ap (λ (r : Predecessor). r.rank) (same_as_before t v e node was_open now_reached w reached) ∙ by.deeper ∙ ap (λ (r : Predecessor). r.rank + 1) (sym (same_as_before t v e node was_open now_reached start by.reached));
        }

    pub search_on : IsSearch arcs x p after
    search_on = record {
      sized = length-set t v e ∙ search.sized;
      ranked = λ w reached. omega (arith, length-set t v e, all_reached t v e node was_open now_reached (λ n r. r.rank + open_count after < length t) (λ n was. omega (arith, search.ranked n was, one_less t v e node was_open now_reached)) rank_fits w reached);
      paths = all_reached t v e node was_open now_reached (λ n r. 0 < r.rank → IsCameBy arcs x after n (r.end / 2) (end_way r.end)) (λ n was deep. came_before n (search.paths n was deep) was) (λ deep. (came deep).0);
      tight = all_reached t v e node was_open now_reached (λ n r. 0 < r.rank → reduced_at arcs p (r.end / 2) (end_way r.end) ≡ pos 0) search.tight (λ deep. (came deep).1);
    }
