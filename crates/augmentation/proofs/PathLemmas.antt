-- The path by which a search came to a node: each node on it is reached, one hop further from the beginning than the one before.
use Rattle.std.proofs.Common.{◌≡◌, ◌≢◌, ◌∙◌, ℕ, zero, suc, ◌+◌, ◌<◌, ◌≤◌, ℤ, List, [], ◌∷◌, refl, sym, ap, subst, arith}
use Rattle.std.specs.Prelude.{slice_set}
use Rattle.std.specs.List.{All, AllPairs}
use Rattle.std.proofs.lemmas.List.Elements.{All-nil, All-cons, All-weaker}
use Rattle.std.proofs.lemmas.List.Kept.{AllPairs-cons}
use Rattle.dimacs_text.specs.declared.problem.ArcRow.{ArcRow}
use Rattle.residual_graph.specs.declared.residual.ResidualArc.{ResidualArc}
use Rattle.residual_graph.specs.declared.residual.Way.{Way}
use Rattle.residual_graph.specs.declared.residual.Way.TheVariants.{Forward, Backward}
use Rattle.residual_graph.specs.Residual.{end_at, number_at, start_at}
use Rattle.predecessors.specs.declared.predecessor.Predecessor.{Predecessor}
use Rattle.predecessors.specs.Predecessor.{rank_at}
use Rattle.shortest_paths.specs.Search.{AreHung, IsReached}
use Rattle.flow_changes.specs.Push.{HasRoom, IsPath, IsTight, IsTightArc, moved, nodes_on, push_along}
use Rattle.augmentation.specs.Path.{before, hop_to, hops_before, path_to, root_of, root_to}
use Rattle.flow_changes.proofs.PushLemmas.{AreApart, Avoids, push_along-set, push_elsewhere}

AllPairs-nil : {X : Type 0} (R : X → X → Type 0) → AllPairs R []
AllPairs-nil R i j d h g = absurd (omega arith)

module _ (arcs : List ArcRow) (s : List Predecessor) where
  -- each hop begins at this depth or deeper, and goes one deeper
  abbrev AreFrom : ℕ → List ResidualArc → Type 0
  AreFrom d [] = Unit {0}
  AreFrom d (h ∷ hops) = (d ≤ rank_at s (start_at arcs h.arc h.way)) × (rank_at s (end_at arcs h.arc h.way) ≡ rank_at s (start_at arcs h.arc h.way) + 1) × AreFrom d hops

  from_higher : (d e : ℕ) (hops : List ResidualArc) → e ≤ d → AreFrom d hops → AreFrom e hops
  from_higher d e [] le from = tt
  from_higher d e (h ∷ hops) le from = (omega (arith, from.0, le), from.1, from_higher d e hops le from.2)

  -- either way of an arc has its ends at two depths: an arc that comes from a greater depth is another one
  arcs_apart : (k : ℕ) (a b : Way) → rank_at s (end_at arcs k a) ≡ rank_at s (start_at arcs k a) + 1 → rank_at s (end_at arcs k b) ≡ rank_at s (start_at arcs k b) + 1 → rank_at s (start_at arcs k a) < rank_at s (start_at arcs k b) → ⊥
  arcs_apart k Forward Forward e f lt = omega (arith, lt)
  arcs_apart k Backward Backward e f lt = omega (arith, lt)
  arcs_apart k Forward Backward e f lt = omega (arith, e, f)
  arcs_apart k Backward Forward e f lt = omega (arith, e, f)

  avoids_from : (k : ℕ) (way : Way) (d : ℕ) (hops : List ResidualArc) → rank_at s (end_at arcs k way) ≡ rank_at s (start_at arcs k way) + 1 → rank_at s (start_at arcs k way) < d → AreFrom d hops → Avoids k hops
  avoids_from k way d [] higher lt from = tt
  avoids_from k way d (h ∷ hops) higher lt from = (
    λ same. arcs_apart k way h.way higher
        (subst (λ (j : ℕ). rank_at s (end_at arcs j h.way) ≡ rank_at s (start_at arcs j h.way) + 1) same from.1)
        (let there : rank_at s (start_at arcs h.arc h.way) ≡ rank_at s (start_at arcs k h.way) = ap (λ (j : ℕ). rank_at s (start_at arcs j h.way)) same in omega (arith, there, from.0, lt)),
    avoids_from k way d hops higher lt from.2,
  )

  -- the hops are the last ones of a path: they lead on from v to t
  pub record IsOnward (t v : ℕ) (hops : List ResidualArc) : Type 0 where
    pub reached : IsReached s v
    pub leads : IsPath arcs hops v t
    pub simple : AllPairs ◌≢◌ (nodes_on arcs hops v)
    pub deep : All (λ w. rank_at s v ≤ rank_at s w) (nodes_on arcs hops v)
    pub from : AreFrom (rank_at s v) hops
    pub apart : AreApart arcs hops

  pub onward_none : (t : ℕ) → IsReached s t → IsOnward t t []
  onward_none t reached = record {
    reached = reached;
    leads = refl;
    simple = AllPairs-cons ◌≢◌ t [] (All-nil (λ w. t ≢ w)) (AllPairs-nil ◌≢◌);
    deep = All-cons (λ w. rank_at s t ≤ rank_at s w) t [] (omega arith) (All-nil (λ w. rank_at s t ≤ rank_at s w));
    from = tt;
    apart = tt;
  }

  module _ (hung : AreHung arcs s) where
    -- one hop more, by which the search came to v
    pub onward_more : (t v : ℕ) (hops : List ResidualArc) → 0 < rank_at s v → IsOnward t v hops → IsOnward t (before arcs s v) (hop_to s v ∷ hops)
    onward_more t v hops some is =
        let came = hung v is.reached some in
        let h = hop_to s v in
        let u = before arcs s v in
        let rest = nodes_on arcs hops v in
        let higher : rank_at s (end_at arcs h.arc h.way) ≡ rank_at s u + 1 = ap (rank_at s) came.ends ∙ came.deeper in
        let lower : rank_at s u < rank_at s v = omega (arith, came.deeper) in
        subst (λ (w : ℕ). All (λ q. rank_at s v ≤ rank_at s q) (nodes_on arcs hops w) → AllPairs ◌≢◌ (nodes_on arcs hops w) → IsPath arcs hops w t → IsOnward t u (h ∷ hops)) came.ends
        (λ deep simple leads. record {
          reached = came.reached;
          leads = (refl, leads);
          simple = AllPairs-cons ◌≢◌ u (nodes_on arcs hops (end_at arcs h.arc h.way))
              (All-weaker (λ w. rank_at s v ≤ rank_at s w) (λ w. u ≢ w) (λ w le same. (let deep : rank_at s u ≡ rank_at s w = ap (rank_at s) same in omega (arith, le, lower, deep))) (nodes_on arcs hops (end_at arcs h.arc h.way)) deep) simple;
          deep = All-cons (λ w. rank_at s u ≤ rank_at s w) u (nodes_on arcs hops (end_at arcs h.arc h.way)) (omega arith)
              (All-weaker (λ w. rank_at s v ≤ rank_at s w) (λ w. rank_at s u ≤ rank_at s w) (λ w le. omega (arith, le, lower)) (nodes_on arcs hops (end_at arcs h.arc h.way)) deep);
          from = (omega arith, higher, from_higher (rank_at s v) (rank_at s u) hops (omega (arith, lower)) is.from);
          apart = (came.is_arc, avoids_from h.arc h.way (rank_at s v) hops higher lower is.from, is.apart);
        }) is.deep is.simple is.leads

    pub onward_all : (d t v : ℕ) (hops : List ResidualArc) → rank_at s v ≡ d → IsOnward t v hops → IsOnward t (root_of arcs s d v) (hops_before arcs s d v hops)
    onward_all zero t v hops e is = is
    onward_all (suc d) t v hops e is =
        let came = hung v is.reached (omega (arith, e)) in
        onward_all d t (before arcs s v) (hop_to s v ∷ hops) (omega (arith, e, came.deeper)) (onward_more t v hops (omega (arith, e)) is)

    -- the whole path
    pub path_onward : (t : ℕ) → IsReached s t → IsOnward t (root_to arcs s t) (path_to arcs s t)
    path_onward t reached = onward_all (rank_at s t) t t [] refl (onward_none t reached)

    pub root_depth : (d v : ℕ) → IsReached s v → rank_at s v ≡ d → rank_at s (root_of arcs s d v) ≡ 0
    root_depth zero v reached e = e
    root_depth (suc d) v reached e =
        let came = hung v reached (omega (arith, e)) in
        root_depth d (before arcs s v) came.reached (omega (arith, e, came.deeper))

    -- one hop back from v
    pub step_back : (v : ℕ) (hops : List ResidualArc) → IsReached s v → 0 < rank_at s v → hops_before arcs s (rank_at s v) v hops ≡ hops_before arcs s (rank_at s (before arcs s v)) (before arcs s v) (hop_to s v ∷ hops)
    step_back v hops reached some =
        let came = hung v reached some in
        let deep : rank_at s v ≡ suc (rank_at s (before arcs s v)) = omega (arith, came.deeper) in
        ap (λ (d : ℕ). hops_before arcs s d v hops) deep

    pub root_back : (v : ℕ) → IsReached s v → 0 < rank_at s v → root_to arcs s v ≡ root_to arcs s (before arcs s v)
    root_back v reached some =
        let came = hung v reached some in
        let deep : rank_at s v ≡ suc (rank_at s (before arcs s v)) = omega (arith, came.deeper) in
        ap (λ (d : ℕ). root_of arcs s d v) deep

  -- where each node of a path that has a property is reached along a tight arc from another such node, the path is tight
  pub hops_tight : (q : List ℤ) (P : ℕ → Type 0) → ((v : ℕ) → P v → 0 < rank_at s v → IsTightArc arcs q (hop_to s v).arc (hop_to s v).way × P (before arcs s v) × (rank_at s v ≡ rank_at s (before arcs s v) + 1))
      → (d v : ℕ) (hops : List ResidualArc) → P v → rank_at s v ≡ d → IsTight arcs q hops → IsTight arcs q (hops_before arcs s d v hops)
  hops_tight q P step zero v hops has e tight = tight
  hops_tight q P step (suc d) v hops has e tight =
      let back = step v has (omega (arith, e)) in
      hops_tight q P step d (before arcs s v) (hop_to s v ∷ hops) back.1 (omega (arith, e, back.2)) (back.0, tight)

  -- what fits on each hop of a path fits on its last ones
  pub room_after : (x : List ℤ) (m : ℤ) (d v : ℕ) (hops : List ResidualArc) → HasRoom arcs x m (hops_before arcs s d v hops) → HasRoom arcs x m hops
  room_after x m zero v hops room = room
  room_after x m (suc d) v hops room = (room_after x m d (before arcs s v) (hop_to s v ∷ hops) room).1

-- a push along the last hops of a path, and then along the hop before them
pub push_before : (arcs : List ArcRow) (h : ResidualArc) (hops : List ResidualArc) (m : ℤ) (x y : List ℤ) → AreApart arcs (h ∷ hops) → y ≡ push_along hops m x → slice_set y h.arc (moved h.way (number_at y h.arc) m) ≡ push_along (h ∷ hops) m x
push_before arcs h hops m x y apart is =
    ap (λ (z : List ℤ). slice_set z h.arc (moved h.way (number_at z h.arc) m)) is
    ∙ ap (λ (n : ℤ). slice_set (push_along hops m x) h.arc (moved h.way n m)) (push_elsewhere hops m x h.arc apart.1)
    ∙ sym (push_along-set hops m x h.arc (moved h.way (number_at x h.arc) m) apart.1)
