-- Each change of a flow lies on a path of changes, from a node that has something to give to one that has something to take.
use Rattle.std.proofs.Common.{◌≡◌, ◌≢◌, ◌∙◌, ◌⊎◌, ℕ, zero, suc, ◌+◌, ◌<◌, ◌≤◌, ℤ, pos, negsuc, ◌-ℤ◌, ◌≤ℤ◌, ◌<ℤ◌, List, [], ◌∷◌, length, refl, sym, ap, subst, inl, inr, arith}
use Rattle.std.specs.List.{All, AllPairs, sum_by}
use Rattle.std.proofs.lemmas.Int.{ints}
use Rattle.std.proofs.lemmas.Bool.{cases_eq, cases_lt}
use Rattle.std.proofs.lemmas.List.{get_or_past}
use Rattle.std.proofs.lemmas.List.Elements.{All-nil, All-cons, All-weaker}
use Rattle.std.proofs.lemmas.List.Kept.{AllPairs-cons}
use Rattle.std.proofs.lemmas.List.Sums.{get_or-le-sum_by}
use Rattle.dimacs_text.specs.declared.problem.ArcRow.{ArcRow}
use Rattle.network.specs.Flow.{net}
use Rattle.residual_graph.specs.declared.residual.ResidualArc.{ResidualArc}
use Rattle.residual_graph.specs.declared.residual.Way.{Way}
use Rattle.residual_graph.specs.declared.residual.Way.TheVariants.{Forward, Backward}
use Rattle.residual_graph.specs.Residual.{end_at, end_of, number_at, other_way, row_at, start_at, start_of, turned}
use Rattle.flow_changes.specs.Push.{IsPath, only_at, nodes_on}
use Rattle.flow_changes.specs.Changes.{IsAcyclicChange, IsWantedPath, rank_of, wanted_along, wanted_of}
use Rattle.flow_changes.proofs.PushLemmas.{at_other, at_same}

wanted_or_not : (z : ℤ) → (pos 1 ≤ℤ z) ⊎ (z ≤ℤ pos 0)
wanted_or_not (pos zero) = inr (omega (arith, ints))
wanted_or_not (pos (suc n)) = inl (omega (arith, ints))
wanted_or_not (negsuc n) = inr (omega (arith, ints))

by_way : (P : Way → Type 0) → P Forward → P Backward → (way : Way) → P way
by_way P forward backward Forward = forward
by_way P forward backward Backward = backward

-- ---- a node at which changes end and none starts

-- no change of an arc from flow x to y starts at v
abbrev NoneOn : ArcRow → ℤ → ℤ → ℕ → Type 0
NoneOn a x y v = (way : Way) → start_of a way ≡ v → wanted_of x y way ≤ℤ pos 0

-- a residual arc along which y asks for more than x
record IsWanted (rows : List ArcRow) (x y : List ℤ) (h : ResidualArc) : Type 0 where
  pub is_arc : h.arc < length rows
  pub wanted : pos 1 ≤ℤ wanted_along x y h

-- a change that starts at v
record Starts (rows : List ArcRow) (x y : List ℤ) (v : ℕ) : Type 0 where
  pub hop : ResidualArc
  pub wanted : IsWanted rows x y hop
  pub at : start_at rows hop.arc hop.way ≡ v

-- v sends out no more than before, and less where a change ends there
record SendsNoMore (rows : List ArcRow) (x y : List ℤ) (v : ℕ) : Type 0 where
  pub not_more : net rows y v ≤ℤ net rows x v
  pub less : (h : ResidualArc) → IsWanted rows x y h → end_at rows h.arc h.way ≡ v → net rows y v <ℤ net rows x v

-- what lies at a node, by whether it is this one
here : (u v : ℕ) → u ≡ v → (m : ℤ) → only_at u m v ≡ m
here u v same m = ap (only_at u m) (sym same) ∙ at_same u m

here_or_not : (u v : ℕ) → ((u ≡ v) × ((m : ℤ) → only_at u m v ≡ m)) ⊎ ((m : ℤ) → only_at u m v ≡ pos 0)
here_or_not u v = elim (cases_eq u v) [
  | inl same ↦ inl (same, here u v same)
  | inr ne ↦ inr (λ m. at_other u m v (λ same. ne (sym same)))
]

-- an arc with flow x adds this to what node v sends out
abbrev sent : ArcRow → ℤ → ℕ → ℤ
sent a x v = only_at a.tail x v -ℤ only_at a.head x v

-- an arc of which no change starts at v adds no more than before,
sent_not_more : (a : ArcRow) (x y : ℤ) (v : ℕ) → NoneOn a x y v → sent a y v ≤ℤ sent a x v
sent_not_more a x y v none = elim (here_or_not a.tail v) [
  | inl tail ↦ (elim (here_or_not a.head v) [
    | inl head ↦ omega (arith, ints, tail.1 x, tail.1 y, head.1 x, head.1 y)
    | inr off ↦ omega (arith, ints, none Forward tail.0, tail.1 x, tail.1 y, off x, off y)
  ])
  | inr off ↦ (elim (here_or_not a.head v) [
    | inl head ↦ omega (arith, ints, none Backward head.0, head.1 x, head.1 y, off x, off y)
    | inr neither ↦ omega (arith, ints, off x, off y, neither x, neither y)
  ])
]

-- and less, where a change of it ends there
sent_less : (way : Way) (a : ArcRow) (x y : ℤ) (v : ℕ) → NoneOn a x y v → end_of a way ≡ v → pos 1 ≤ℤ wanted_of x y way → sent a y v <ℤ sent a x v
sent_less Forward a x y v none ends more = elim (here_or_not a.tail v) [
  | inl tail ↦ absurd (omega (arith, ints, none Forward tail.0, more))
  | inr off ↦ omega (arith, ints, more, here a.head v ends x, here a.head v ends y, off x, off y)
]
sent_less Backward a x y v none ends more = elim (here_or_not a.head v) [
  | inl head ↦ absurd (omega (arith, ints, none Backward head.0, more))
  | inr off ↦ omega (arith, ints, more, here a.tail v ends x, here a.tail v ends y, off x, off y)
]

-- a change of the arc this way starts at v, or none does
way_starts_or_not : (a : ArcRow) (x y : ℤ) (v : ℕ) (way : Way) → ((start_of a way ≡ v) × (pos 1 ≤ℤ wanted_of x y way)) ⊎ (start_of a way ≡ v → wanted_of x y way ≤ℤ pos 0)
way_starts_or_not a x y v way = elim (cases_eq (start_of a way) v) [
  | inl at ↦ (elim (wanted_or_not (wanted_of x y way)) [ inl more ↦ inl (at, more) | inr enough ↦ inr (λ same. enough) ])
  | inr ne ↦ inr (λ at. absurd (ne at))
]

-- either way
arc_starts_or_none : (a : ArcRow) (x y : ℤ) (v : ℕ) → ((way : Way) × (start_of a way ≡ v) × (pos 1 ≤ℤ wanted_of x y way)) ⊎ NoneOn a x y v
arc_starts_or_none a x y v = elim (way_starts_or_not a x y v Forward) [
  | inl found ↦ inl (Forward, found.0, found.1)
  | inr forward ↦ (elim (way_starts_or_not a x y v Backward) [
    | inl found ↦ inl (Backward, found.0, found.1)
    | inr backward ↦ inr (by_way (λ w. start_of a w ≡ v → wanted_of x y w ≤ℤ pos 0) forward backward)
  ])
]

-- one arc more
sends_first : (a : ArcRow) (rows : List ArcRow) (p q : ℤ) (x y : List ℤ) (v : ℕ) → NoneOn a p q v → SendsNoMore rows x y v → SendsNoMore (a ∷ rows) (p ∷ x) (q ∷ y) v
sends_first a rows p q x y v none rest = record {
  not_more = omega (arith, ints, sent_not_more a p q v none, rest.not_more);
  less = λ h wanted ends. by_place h.arc h.way wanted.is_arc wanted.wanted ends;
}
  where
    by_place : (k : ℕ) (way : Way) → k < length (a ∷ rows) → pos 1 ≤ℤ wanted_of (number_at (p ∷ x) k) (number_at (q ∷ y) k) way → end_at (a ∷ rows) k way ≡ v → net (a ∷ rows) (q ∷ y) v <ℤ net (a ∷ rows) (p ∷ x) v
    by_place zero way lt more ends = omega (arith, ints, sent_less way a p q v none ends more, rest.not_more)
    by_place (suc k) way lt more ends =
        omega (arith, ints, sent_not_more a p q v none, rest.less (record { arc = k; way = way }) (record { is_arc = omega (arith, lt); wanted = more }) ends)

-- some change starts at v, or v sends out no more than before
start_or_none : (rows : List ArcRow) (x y : List ℤ) (v : ℕ) → length x ≡ length rows → length y ≡ length rows → Starts rows x y v ⊎ SendsNoMore rows x y v
start_or_none [] x y v x_sized y_sized = inr (record { not_more = omega (arith, ints); less = λ h wanted. absurd (omega (arith, wanted.is_arc)) })
start_or_none (a ∷ rows) [] y v x_sized y_sized = absurd (omega (arith, x_sized))
start_or_none (a ∷ rows) (p ∷ x) [] v x_sized y_sized = absurd (omega (arith, y_sized))
start_or_none (a ∷ rows) (p ∷ x) (q ∷ y) v x_sized y_sized = elim (arc_starts_or_none a p q v) [
  | inl first ↦ inl (record { hop = record { arc = 0; way = first.0 }; wanted = record { is_arc = omega arith; wanted = first.2 }; at = first.1 })
  | inr none ↦ (elim (start_or_none rows x y v (omega (arith, x_sized)) (omega (arith, y_sized))) [
    | inl later ↦ inl (record { hop = record { arc = suc later.hop.arc; way = later.hop.way }; wanted = record { is_arc = omega (arith, later.wanted.is_arc); wanted = later.wanted.wanted }; at = later.at })
    | inr rest ↦ inr (sends_first a rows p q x y v none rest)
  ])
]

-- a change from x to y is one from y back to x, turned
turned_wanted : (rows : List ArcRow) (x y : List ℤ) (h : ResidualArc) → IsWanted rows x y h → IsWanted rows y x (turned h)
turned_wanted rows x y h wanted = record {
  is_arc = wanted.is_arc;
  wanted = by_way (λ w. pos 1 ≤ℤ wanted_of (number_at x h.arc) (number_at y h.arc) w → pos 1 ≤ℤ wanted_of (number_at y h.arc) (number_at x h.arc) (other_way w)) (λ more. more) (λ more. more) h.way wanted.wanted;
}

turned_end : (a : ArcRow) (way : Way) → end_of a (other_way way) ≡ start_of a way
turned_end a Forward = refl
turned_end a Backward = refl

-- ---- ranks

abbrev total : List ℕ → ℕ
total ranks = sum_by (λ r. r) ranks

-- no rank is above their total
rank_bounded : (ranks : List ℕ) (v : ℕ) → rank_of ranks v ≤ total ranks
rank_bounded ranks v = elim (cases_lt v (length ranks)) [
  | inl lt ↦ get_or-le-sum_by (λ r. r) ranks v 0 lt
  | inr past ↦ omega (arith, get_or_past ranks v 0 past)
]

AllPairs-nil : {X : Type 0} (R : X → X → Type 0) → AllPairs R []
AllPairs-nil R i j d h g = absurd (omega arith)

module _ (nodes : ℕ) (rows : List ArcRow) (x e y f : List ℤ) (ranks : List ℕ) (is : IsAcyclicChange nodes rows x e y f ranks) where
  -- ---- changes

  -- the residual arc leads from a node to one of higher rank
  record IsRise (k : ℕ) (way : Way) : Type 0 where
    pub higher : rank_of ranks (start_at rows k way) < rank_of ranks (end_at rows k way)
    pub start_in : start_at rows k way < nodes
    pub end_in : end_at rows k way < nodes

  rise_by : (k : ℕ) (way : Way) → k < length rows → pos 1 ≤ℤ wanted_of (number_at x k) (number_at y k) way → IsRise k way
  rise_by k Forward lt more = (let row = is.before.rows k lt in record { higher = (is.rises k lt).more (omega (arith, ints, more)); start_in = row.tail_in; end_in = row.head_in })
  rise_by k Backward lt more = (let row = is.before.rows k lt in record { higher = (is.rises k lt).less (omega (arith, ints, more)); start_in = row.head_in; end_in = row.tail_in })

  rise_of : (h : ResidualArc) → IsWanted rows x y h → IsRise h.arc h.way
  rise_of h wanted = rise_by h.arc h.way wanted.is_arc wanted.wanted

  -- where a change ends and none starts, v takes something
  takes_at : (h : ResidualArc) (v : ℕ) → IsWanted rows x y h → end_at rows h.arc h.way ≡ v → SendsNoMore rows x y v → (number_at e v <ℤ number_at f v) × (number_at f v ≤ℤ pos 0)
  takes_at h v wanted ends sends =
      let more : number_at e v <ℤ number_at f v = omega (arith, ints, sends.less h wanted ends, is.excess v) in
      elim (is.nearer v) [
        | inl down ↦ absurd (omega (arith, ints, down.1, more))
        | inr up ↦ (more, up.1)
      ]

  -- where a change starts and none ends, v gives something
  gives_at : (h : ResidualArc) (v : ℕ) → IsWanted rows x y h → start_at rows h.arc h.way ≡ v → SendsNoMore rows y x v → (pos 0 ≤ℤ number_at f v) × (number_at f v <ℤ number_at e v)
  gives_at h v wanted starts sends =
      let less : number_at f v <ℤ number_at e v = omega (arith, ints, sends.less (turned h) (turned_wanted rows x y h wanted) (turned_end (row_at rows h.arc) h.way ∙ starts), is.excess v) in
      elim (is.nearer v) [
        | inl down ↦ (down.0, less)
        | inr up ↦ absurd (omega (arith, ints, up.0, less))
      ]

  -- ---- paths of changes

  -- a path of changes from v, no node of which has a lower rank, to a node that takes something
  record IsOnward (v : ℕ) : Type 0 where
    pub hops : List ResidualArc
    pub target : ℕ
    pub target_in : target < nodes
    pub leads : IsPath rows hops v target
    pub simple : AllPairs ◌≢◌ (nodes_on rows hops v)
    pub above : All (λ w. rank_of ranks v ≤ rank_of ranks w) (nodes_on rows hops v)
    pub arcs : All (λ h. h.arc < length rows) hops
    pub wanted : All (λ h. pos 1 ≤ℤ wanted_along x y h) hops
    pub takes : (number_at e target <ℤ number_at f target) × (number_at f target ≤ℤ pos 0)

  onward_none : (v : ℕ) → v < nodes → (number_at e v <ℤ number_at f v) × (number_at f v ≤ℤ pos 0) → IsOnward v
  onward_none v lt takes = record {
    hops = [];
    target = v;
    target_in = lt;
    leads = refl;
    simple = AllPairs-cons ◌≢◌ v [] (All-nil (λ w. v ≢ w)) (AllPairs-nil ◌≢◌);
    above = All-cons (λ w. rank_of ranks v ≤ rank_of ranks w) v [] (omega arith) (All-nil (λ w. rank_of ranks v ≤ rank_of ranks w));
    arcs = All-nil (λ h. h.arc < length rows);
    wanted = All-nil (λ h. pos 1 ≤ℤ wanted_along x y h);
    takes = takes;
  }

  onward_more : (h : ResidualArc) → IsWanted rows x y h → IsOnward (end_at rows h.arc h.way) → IsOnward (start_at rows h.arc h.way)
  onward_more h wanted on =
      let u = start_at rows h.arc h.way in
      let v = end_at rows h.arc h.way in
      let others = nodes_on rows on.hops v in
      let higher : All (λ w. rank_of ranks u < rank_of ranks w) others = All-weaker (λ w. rank_of ranks v ≤ rank_of ranks w) (λ w. rank_of ranks u < rank_of ranks w) (λ w at_least. omega (arith, at_least, (rise_of h wanted).higher)) others on.above in
      record {
        hops = h ∷ on.hops;
        target = on.target;
        target_in = on.target_in;
        leads = (refl, on.leads);
        simple = AllPairs-cons ◌≢◌ u others (All-weaker (λ w. rank_of ranks u < rank_of ranks w) (λ w. u ≢ w) (λ w lt same. absurd (omega (arith, lt, ap (rank_of ranks) same))) others higher) on.simple;
        above = All-cons (λ w. rank_of ranks u ≤ rank_of ranks w) u others (omega arith) (All-weaker (λ w. rank_of ranks u < rank_of ranks w) (λ w. rank_of ranks u ≤ rank_of ranks w) (λ w lt. omega (arith, lt)) others higher);
        arcs = All-cons (λ g. g.arc < length rows) h on.hops wanted.is_arc on.arcs;
        wanted = All-cons (λ g. pos 1 ≤ℤ wanted_along x y g) h on.hops wanted.wanted on.wanted;
        takes = on.takes;
      }

  -- on from the end of a change: each hop leads higher, and no rank is above the total
  go_on : (d : ℕ) (h : ResidualArc) → IsWanted rows x y h → total ranks < d + rank_of ranks (end_at rows h.arc h.way) → IsOnward (end_at rows h.arc h.way)
  go_on zero h wanted low = absurd (omega (arith, low, rank_bounded ranks (end_at rows h.arc h.way)))
  go_on (suc d) h wanted low = elim (start_or_none rows x y (end_at rows h.arc h.way) is.before.same_length is.after.same_length) [
    | inl next ↦ (let rank = ap (rank_of ranks) next.at in
        subst IsOnward next.at (onward_more next.hop next.wanted (go_on d next.hop next.wanted (omega (arith, low, rank, (rise_of next.hop next.wanted).higher)))))
    | inr sends ↦ onward_none (end_at rows h.arc h.way) (rise_of h wanted).end_in (takes_at h (end_at rows h.arc h.way) wanted refl sends)
  ]

  -- back from the start of a change: each hop back leads lower
  go_back : (d : ℕ) (h : ResidualArc) → IsWanted rows x y h → rank_of ranks (start_at rows h.arc h.way) < d → IsOnward (start_at rows h.arc h.way) → IsWantedPath nodes rows x e y f
  go_back zero h wanted low on = absurd (omega (arith, low))
  go_back (suc d) h wanted low on = elim (start_or_none rows y x (start_at rows h.arc h.way) is.after.same_length is.before.same_length) [
    | inl start ↦ (let last = turned start.hop in
        let last_wanted = turned_wanted rows y x start.hop start.wanted in
        let ends = turned_end (row_at rows last.arc) start.hop.way ∙ start.at in
        let rank = ap (rank_of ranks) ends in
        go_back d last last_wanted (omega (arith, low, rank, (rise_of last last_wanted).higher)) (onward_more last last_wanted (subst IsOnward (sym ends) on)))
    | inr sends ↦ record {
      hops = on.hops;
      source = start_at rows h.arc h.way;
      target = on.target;
      source_in = (rise_of h wanted).start_in;
      target_in = on.target_in;
      leads = on.leads;
      simple = on.simple;
      arcs = on.arcs;
      wanted = on.wanted;
      gives = gives_at h (start_at rows h.arc h.way) wanted refl sends;
      takes = on.takes;
    }
  ]

  path_through : (h : ResidualArc) → IsWanted rows x y h → IsWantedPath nodes rows x e y f
  path_through h wanted =
      go_back (suc (rank_of ranks (start_at rows h.arc h.way))) h wanted (omega arith) (onward_more h wanted (go_on (suc (total ranks)) h wanted (omega arith)))

  -- where an arc is to carry another flow, a path of changes leads from a source to a target
  pub wanted_path : (k : ℕ) → k < length rows → number_at x k ≢ number_at y k → IsWantedPath nodes rows x e y f
  wanted_path k lt ne = elim (wanted_or_not (number_at y k -ℤ number_at x k)) [
    | inl more ↦ path_through (record { arc = k; way = Forward }) (record { is_arc = lt; wanted = more })
    | inr not_more ↦ (elim (wanted_or_not (number_at x k -ℤ number_at y k)) [
      | inl less ↦ path_through (record { arc = k; way = Backward }) (record { is_arc = lt; wanted = less })
      | inr not_less ↦ absurd (ne (omega (arith, ints, not_more, not_less)))
    ])
  ]
