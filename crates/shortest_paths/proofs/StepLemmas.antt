-- One step of a search, and what stands at its beginning and at its end.
use Rattle.std.proofs.Common.{◌≡◌, ◌≢◌, ◌∙◌, ℕ, negsuc, ◌+◌, ◌*◌, ◌/◌, ◌%◌, ◌<◌, ◌≤◌, ◌⊎◌, ℤ, pos, neg_ℤ, ◌-ℤ◌, ◌+ℤ◌, ◌≤ℤ◌, List, length, refl, sym, ap, subst, inl, inr, arith, slice_set}
use Rattle.std.specs.Prelude.{◌<ℤ◌, Bool, IfNone, IfSome, MatchOption, None, Option, Some, true, false}
use Rattle.std.proofs.lemmas.Int.{ints}
use Rattle.std.proofs.lemmas.Bool.{cases_eq, cases_lt, false≢true}
use Rattle.std.proofs.lemmas.List.{get_or-set_other, get_or-set_same, get_or_past, length-set}
use Rattle.std.proofs.lemmas.List.Sums.{count_by-le-length}
use Rattle.containers.specs.declared.queue.Waiting.{Waiting}
use Rattle.containers.specs.Queue.{IsIn, IsOffered, IsTaken, QueueView, entry_at, key_at}
use Rattle.dimacs_text.specs.declared.problem.ArcRow.{ArcRow}
use Rattle.residual_graph.specs.declared.residual.Way.{Way}
use Rattle.residual_graph.specs.declared.residual.Way.TheVariants.{Backward, Forward}
use Rattle.residual_graph.specs.Limits.{cost_limit, entry_limit, potential_floor}
use Rattle.residual_graph.specs.Residual.{AreGreatest, ArePotentials, IsPseudoflow, IsReducedCostOptimal, IsResidual, NoneBelow, NoneBelowBy, cost_at, end_at, number_at, row_at, start_at}
use Rattle.residual_graph.specs.Walk.{end_way}
use Rattle.residual_graph.proofs.RowLemmas.{cost_of-bounds, end_of-in, start_of-in}
use Rattle.predecessors.specs.Limits.{label_floor}
use Rattle.predecessors.specs.declared.predecessor.Predecessor.{Predecessor}
use Rattle.predecessors.specs.Predecessor.{AreBounded, IsTracedAt, arc_to, predecessor_at, rank_at, reduced_at, root_node, way_to}
use Rattle.shortest_paths.specs.Search.{AreLowered, AreOffered, AreRaised, AreServed, AreServedFrom, Crosses, HaveJoined, IsAlong, IsDeficitFound, IsForest, IsOpen, IsReached, IsSearch, IsServed, NoneCrosses, come_from, open_count}
use Rattle.predecessors.proofs.LabelLemmas.{greatest_of}
use Rattle.shortest_paths.proofs.SearchLemmas.{all_reached, is_there, not_both, one_less, one_reached, open_before, open_in, open_or_reached, same_as_before, search_on, still_reached}

-- ---- nodes wait

pub HaveJoined-refl : (arcs : List ArcRow) (x p : List ℤ) (t : List Predecessor) (q : QueueView) → HaveJoined arcs x p t q q
HaveJoined-refl arcs x p t q = record { sized = refl; kept = λ v inside. (inside, omega (arith, ints)); entries = λ v inside. inl (inside, refl) }

pub HaveJoined-trans : (arcs : List ArcRow) (x p : List ℤ) (t : List Predecessor) (q r s : QueueView) → HaveJoined arcs x p t q r → HaveJoined arcs x p t r s → HaveJoined arcs x p t q s
HaveJoined-trans arcs x p t q r s first next = record {
  sized = next.sized ∙ first.sized;
  kept = λ v inside.
      (let one = first.kept v inside in
      let two = next.kept v one.0 in
      (two.0, omega (arith, ints, one.1, two.1)));
  entries = λ v inside. elim (next.entries v inside) [
    | inl before ↦ elim (first.entries v before.0) [
      | inl old ↦ inl (old.0, before.1 ∙ old.1)
      | inr along ↦ inr (subst (λ (w : Waiting). IsAlong arcs x p t w v) (sym before.1) along)
    ]
    | inr along ↦ inr along
  ];
}

pub served_still : (arcs : List ArcRow) (x p : List ℤ) (t : List Predecessor) (q r : QueueView) → HaveJoined arcs x p t q r → (k : ℕ) (way : Way) → IsServed arcs p q k way → IsServed arcs p r k way
served_still arcs x p t q r grown k way served =
    let kept = grown.kept (end_at arcs k way) served.0 in
    (kept.0, omega (arith, ints, kept.1, served.1))

-- a node is offered a residual arc
module _ (arcs : List ArcRow) (x p : List ℤ) (t : List Predecessor) (q r : QueueView) (w : Waiting) (v : ℕ) (offered : IsOffered q r v w) (along : IsAlong arcs x p t w v) where
  pub grown_offered : HaveJoined arcs x p t q r
  grown_offered = record {
    sized = offered.sized;
    kept = λ u inside. elim (cases_eq u v) [
      | inl same ↦ subst (λ (n : ℕ). IsIn r n × (key_at r.entries n ≤ℤ key_at q.entries n)) (sym same) (offered.waits, offered.no_further (subst (IsIn q) same inside))
      | inr ne ↦ (let as_was = ap (λ (e : Waiting). e.key) (offered.others u ne) in (offered.kept u ne inside, omega (arith, ints, as_was)))
    ];
    entries = λ u inside. elim (cases_eq u v) [
      | inl same ↦ subst (λ (n : ℕ). (IsIn q n × (entry_at r.entries n ≡ entry_at q.entries n)) ⊎ IsAlong arcs x p t (entry_at r.entries n) n) (sym same) here
      | inr ne ↦ inl (offered.before u ne inside, offered.others u ne)
    ];
  }
    where
      here : (IsIn q v × (entry_at r.entries v ≡ entry_at q.entries v)) ⊎ IsAlong arcs x p t (entry_at r.entries v) v
      here = elim offered.entry [
        | inl written ↦ inr (subst (λ (e : Waiting). IsAlong arcs x p t e v) (sym written) along)
        | inr before ↦ inl before
      ]

  pub served_offered : IsServed arcs p r (w.end / 2) (end_way w.end)
  served_offered = subst (λ (n : ℕ). IsIn r n × (key_at r.entries n ≤ℤ reduced_at arcs p (w.end / 2) (end_way w.end))) (sym along.ends) (offered.waits, omega (arith, ints, offered.near, along.key_is))

-- the two residual arcs along an arc leave at its ends
pub from_tail : (P : ℕ → Way → Type 0) (k : ℕ) → P ((2 * k) / 2) (end_way (2 * k)) → P k Forward
from_tail P k h =
    let even : (2 * k) % 2 ≡ 0 = omega arith in
    let arc : (2 * k) / 2 ≡ k = omega arith in
    let way : end_way (2 * k) ≡ Forward = rw even refl in
    subst (λ (w : Way). P k w) way (subst (λ (n : ℕ). P n (end_way (2 * k))) arc h)

pub from_head : (P : ℕ → Way → Type 0) (k : ℕ) → P ((2 * k + 1) / 2) (end_way (2 * k + 1)) → P k Backward
from_head P k h =
    let odd : (2 * k + 1) % 2 ≡ 1 = omega arith in
    let arc : (2 * k + 1) / 2 ≡ k = omega arith in
    let way : end_way (2 * k + 1) ≡ Backward = rw odd refl in
    subst (λ (w : Way). P k w) way (subst (λ (n : ℕ). P n (end_way (2 * k + 1))) arc h)

-- ---- potentials while a search goes on: those of open nodes are behind by the distance that it has come

abbrev pub risen_by : Bool → ℤ → ℤ → ℤ
risen_by true d potential = potential +ℤ d
risen_by false d potential = potential

abbrev pub risen : List ℤ → List Predecessor → ℤ → ℕ → ℤ
risen p t d v = risen_by (predecessor_at t v).is_open d (number_at p v)

risen_open : (p : List ℤ) (t : List Predecessor) (d : ℤ) (v : ℕ) → IsOpen t v → risen p t d v ≡ number_at p v +ℤ d
risen_open p t d v is = ap (λ (b : Bool). risen_by b d (number_at p v)) is

risen_reached : (p : List ℤ) (t : List Predecessor) (d : ℤ) (v : ℕ) → IsReached t v → risen p t d v ≡ number_at p v
risen_reached p t d v is = ap (λ (b : Bool). risen_by b d (number_at p v)) is.1

-- how far a search has come
pub record IsUnderway (arcs : List ArcRow) (x p : List ℤ) (t : List Predecessor) (q : QueueView) (d : ℤ) : Type 0 where
  pub flow : IsPseudoflow (length p) arcs x
  pub search : IsSearch arcs x p t
  pub none_below : NoneBelowBy arcs x (risen p t d)
  pub sized : length q.entries ≡ length p
  pub opens : (v : ℕ) → IsIn q v → IsOpen t v
  pub served : AreServed arcs x p t q

abbrev pub AreAlong : List ArcRow → List ℤ → List ℤ → List Predecessor → QueueView → Type 0
AreAlong arcs x p t q = (v : ℕ) → IsIn q v → IsAlong arcs x p t (entry_at q.entries v) v

pub of_tables : (P : List ℤ → List Predecessor → Type 0) {p q : List ℤ} {t u : List Predecessor} → q ≡ p → u ≡ t → P p t → P q u
of_tables P potentials_are predecessors_are known = rw (potentials_are, predecessors_are) known

module _ (arcs : List ArcRow) (x p : List ℤ) (t : List Predecessor) (flow : IsPseudoflow (length p) arcs x) (sized : length t ≡ length p) where
  pub start_kind : (k : ℕ) (way : Way) → IsResidual arcs x k way → IsOpen t (start_at arcs k way) ⊎ IsReached t (start_at arcs k way)
  start_kind k way residual = open_or_reached t (start_at arcs k way) (rw sized (start_of-in (length p) (row_at arcs k) way (flow.rows k residual.is_arc)))

  pub end_kind : (k : ℕ) (way : Way) → IsResidual arcs x k way → IsOpen t (end_at arcs k way) ⊎ IsReached t (end_at arcs k way)
  end_kind k way residual = open_or_reached t (end_at arcs k way) (rw sized (end_of-in (length p) (row_at arcs k) way (flow.rows k residual.is_arc)))

  -- the search comes as far as no residual arc that crosses is shorter
  pub none_below_on : (d far : ℤ) → d ≤ℤ far → NoneBelowBy arcs x (risen p t d) → ((k : ℕ) (way : Way) → Crosses arcs x t k way → far ≤ℤ reduced_at arcs p k way) → NoneBelowBy arcs x (risen p t far)
  none_below_on d far later none first k way residual =
      let start = start_at arcs k way in
      let end = end_at arcs k way in
      let before = none k way residual in
      elim (start_kind k way residual) [
        | inl start_open ↦ elim (end_kind k way residual) [
          | inl end_open ↦ omega (arith, ints, before, risen_open p t d start start_open, risen_open p t d end end_open, risen_open p t far start start_open, risen_open p t far end end_open)
          | inr end_reached ↦ omega (arith, ints, before, later, risen_open p t d start start_open, risen_reached p t d end end_reached, risen_open p t far start start_open, risen_reached p t far end end_reached)
        ]
        | inr start_reached ↦ elim (end_kind k way residual) [
          | inl end_open ↦ omega (arith, ints, first k way (record { residual = residual; from = start_reached; to = end_open }), risen_reached p t far start start_reached, risen_open p t far end end_open)
          | inr end_reached ↦ omega (arith, ints, before, risen_reached p t d start start_reached, risen_reached p t d end end_reached, risen_reached p t far start start_reached, risen_reached p t far end end_reached)
        ]
      ]

-- ---- a node is settled

module _ (arcs : List ArcRow) (x p : List ℤ) (t : List Predecessor) (q r : QueueView) (d : ℤ) (v : ℕ) (under : IsUnderway arcs x p t q d) (taken : IsTaken q r v) where
  abbrev w : Waiting
  w = entry_at q.entries v

  v_open : IsOpen t v
  v_open = under.opens v taken.was

  pub node_in : v < length t
  node_in = open_in t v v_open

  node_there : v < length p
  node_there = omega (arith, node_in, under.search.sized)

  first : (k : ℕ) (way : Way) → Crosses arcs x t k way → w.key ≤ℤ reduced_at arcs p k way
  first k way at =
      let served = under.served k way at in
      omega (arith, ints, taken.least (end_at arcs k way) served.0, served.1)

  -- where it waits by a residual arc, that is no shorter than the search has come
  pub later_along : IsAlong arcs x p t w v → d ≤ℤ w.key
  later_along along =
      let k = w.end / 2 in
      let way = end_way w.end in
      omega (arith, ints, along.key_is, under.none_below k way along.crosses.residual, risen_reached p t d (start_at arcs k way) along.crosses.from, risen_open p t d (end_at arcs k way) along.crosses.to)

  module _ (e : Predecessor) (closed : e.is_open ≡ false) (later : d ≤ℤ w.key) where
    abbrev after : List ℤ
    after = slice_set p v (number_at p v +ℤ w.key)

    abbrev came : List Predecessor
    came = slice_set t v e

    number_here : number_at after v ≡ number_at p v +ℤ w.key
    number_here = get_or-set_same p v (number_at p v +ℤ w.key) (pos 0) node_there

    number_else : (u : ℕ) → u ≢ v → number_at after u ≡ number_at p u
    number_else u ne = get_or-set_other p v u (number_at p v +ℤ w.key) (pos 0) ne

    not_v : (u : ℕ) → IsReached t u → u ≢ v
    not_v u reached same = not_both t v v_open (subst (IsReached t) same reached)

    number_reached : (u : ℕ) → IsReached t u → number_at after u ≡ number_at p u
    number_reached u reached = number_else u (not_v u reached)

    risen_same : (u : ℕ) → risen after came w.key u ≡ risen p t w.key u
    risen_same u = elim (cases_eq u v) [
      | inl same ↦ subst (λ (n : ℕ). risen after came w.key n ≡ risen p t w.key n) (sym same)
          (ap (λ (b : Bool). risen_by b w.key (number_at after v)) (ap (λ (s : Predecessor). s.is_open) (is_there t v e node_in v_open closed) ∙ closed) ∙ number_here ∙ sym (risen_open p t w.key v v_open))
      | inr ne ↦ ap (λ (s : Predecessor). risen_by s.is_open w.key (number_at after u)) (get_or-set_other t v u e root_node ne) ∙ ap (risen_by (predecessor_at t u).is_open w.key) (number_else u ne)
    ]

    pub none_below_after : NoneBelowBy arcs x (risen after came w.key)
    none_below_after k way residual =
        omega (arith, ints, none_below_on arcs x p t under.flow under.search.sized d w.key later under.none_below first k way residual, risen_same (start_at arcs k way), risen_same (end_at arcs k way))

    search_kept : IsSearch arcs x after t
    search_kept = record {
      sized = under.search.sized ∙ sym (length-set p v (number_at p v +ℤ w.key));
      ranked = under.search.ranked;
      paths = under.search.paths;
      tight = λ u reached deep.
          (let by = under.search.paths u reached deep in
          omega (arith, ints, under.search.tight u reached deep, number_reached (start_at arcs (arc_to t u) (way_to t u)) by.reached, number_reached (end_at arcs (arc_to t u) (way_to t u)) (subst (IsReached t) (sym by.ends) reached)));
    }

    pub fewer : open_count came + 1 ≡ open_count t
    fewer = one_less t v e node_in v_open closed

    end_apart : (k : ℕ) (way : Way) → IsOpen came (end_at arcs k way) → end_at arcs k way ≢ v
    end_apart k way is_open same =
        false≢true (sym (ap (λ (s : Predecessor). s.is_open) (is_there t v e node_in v_open closed) ∙ closed) ∙ subst (IsOpen came) same is_open)

    -- residual arcs from other nodes cross as before
    crossed_before : (k : ℕ) (way : Way) → start_at arcs k way ≢ v → Crosses arcs x came k way → Crosses arcs x t k way
    crossed_before k way ne at = record {
      residual = at.residual;
      from = (
        omega (arith, at.from.0, length-set t v e),
        ap (λ (s : Predecessor). s.is_open) (sym (get_or-set_other t v (start_at arcs k way) e root_node ne)) ∙ at.from.1,
      );
      to = open_before t v e node_in v_open closed (end_at arcs k way) at.to;
    }

    pub served_before : (k : ℕ) (way : Way) → start_at arcs k way ≢ v → Crosses arcs x came k way → IsServed arcs after r k way
    served_before k way ne at =
        let was = crossed_before k way ne at in
        let apart = end_apart k way at.to in
        let served = under.served k way was in
        let same : key_at r.entries (end_at arcs k way) ≡ key_at q.entries (end_at arcs k way) = ap (λ (l : List Waiting). key_at l (end_at arcs k way)) taken.same in
        (taken.kept (end_at arcs k way) apart served.0, omega (arith, ints, served.1, same, number_else (start_at arcs k way) ne, number_else (end_at arcs k way) apart))

    pub opens_before : (u : ℕ) → IsIn r u → IsOpen came u
    opens_before u inside =
        let was = taken.before u inside in
        ap (λ (s : Predecessor). s.is_open) (get_or-set_other t v u e root_node was.1) ∙ under.opens u was.0

    pub along_before : (u : ℕ) → IsIn r u → IsAlong arcs x p t (entry_at q.entries u) u → IsAlong arcs x after came (entry_at r.entries u) u
    along_before u inside along =
        let other = taken.before u inside in
        let k = (entry_at q.entries u).end / 2 in
        let way = end_way (entry_at q.entries u).end in
        let apart : end_at arcs k way ≢ v = λ same. other.1 (sym along.ends ∙ same) in
        subst (λ (l : List Waiting). IsAlong arcs x after came (entry_at l u) u) (sym taken.same) (record {
          crosses = record {
            residual = along.crosses.residual;
            from = still_reached t v e node_in v_open closed (start_at arcs k way) along.crosses.from;
            to = ap (λ (s : Predecessor). s.is_open) (get_or-set_other t v (end_at arcs k way) e root_node apart) ∙ along.crosses.to;
          };
          ends = along.ends;
          key_is = omega (arith, ints, along.key_is, number_reached (start_at arcs k way) along.crosses.from, number_else (end_at arcs k way) apart);
        })

    -- the residual arcs from the node were offered since
    module _ (searched : IsSearch arcs x after came) (s : QueueView) (grown : HaveJoined arcs x after came r s) (from : AreServedFrom arcs x after came s v) where
      pub underway_after : IsUnderway arcs x after came s w.key
      underway_after = record {
        flow = subst (λ (n : ℕ). IsPseudoflow n arcs x) (sym (length-set p v (number_at p v +ℤ w.key))) under.flow;
        search = searched;
        none_below = none_below_after;
        sized = grown.sized ∙ ap (λ (l : List Waiting). length l) taken.same ∙ under.sized ∙ sym (length-set p v (number_at p v +ℤ w.key));
        opens = λ u inside. elim (grown.entries u inside) [
          | inl before ↦ opens_before u before.0
          | inr along ↦ subst (IsOpen came) along.ends along.crosses.to
        ];
        served = λ k way at. elim (cases_eq (start_at arcs k way) v) [
          | inl same ↦ from k way same at
          | inr ne ↦ served_still arcs x after came r s grown k way (served_before k way ne at)
        ];
      }

      pub along_after : AreAlong arcs x p t q → AreAlong arcs x after came s
      along_after along u inside = elim (grown.entries u inside) [
        | inl before ↦ subst (λ (l : Waiting). IsAlong arcs x after came l u) (sym before.1) (along_before u before.0 (along u (taken.before u before.0).0))
        | inr new ↦ new
      ]

  -- it waits by a residual arc
  module _ (along : IsAlong arcs x p t w v) where
    abbrev k : ℕ
    k = w.end / 2

    abbrev way : Way
    way = end_way w.end

    abbrev start : ℕ
    start = start_at arcs k way

    abbrev by : Predecessor
    by = come_from arcs t w.end

    pub rank_fits : rank_at t start < entry_limit
    rank_fits = omega (arith, under.search.ranked start along.crosses.from, under.search.sized, under.flow.few_nodes)

    cost_along : (neg_ℤ (pos cost_limit) ≤ℤ cost_at arcs k way) × (cost_at arcs k way ≤ℤ pos cost_limit)
    cost_along = cost_of-bounds (length p) (row_at arcs k) way (under.flow.rows k along.crosses.residual.is_arc)

    -- the potential that it gets
    pub potential_is : (number_at p v +ℤ w.key) ≡ cost_at arcs k way +ℤ number_at p start
    potential_is = (let end : number_at p (end_at arcs k way) ≡ number_at p v = ap (number_at p) along.ends in omega (arith, ints, along.key_is, end))

    start_reached : IsReached (came by refl (later_along along)) start
    start_reached = still_reached t v by node_in v_open refl start along.crosses.from

    pub search_along : IsSearch arcs x (after by refl (later_along along)) (came by refl (later_along along))
    search_along =
        let later = later_along along in
        search_on arcs x (after by refl later) t v by node_in v_open refl (search_kept by refl later)
        (omega (arith, under.search.ranked start along.crosses.from, fewer by refl later))
        (λ deep. (
          record { residual = along.crosses.residual; ends = along.ends; reached = start_reached; deeper = deeper },
          omega (arith, ints, potential_is, number_reached by refl later start along.crosses.from, ap (number_at (after by refl later)) along.ends, number_here by refl later),
        ))
      where
        deeper : rank_at (came by refl (later_along along)) v ≡ rank_at (came by refl (later_along along)) start + 1
        deeper = ap (λ (s : Predecessor). s.rank) (is_there t v by node_in v_open refl) ∙ ap (λ (s : Predecessor). s.rank + 1) (sym (same_as_before t v by node_in v_open refl start along.crosses.from))

-- ---- the search from the nodes in excess

-- potentials began in the range of labels, and rose since where the search reached their nodes
pub record IsClimbing (p : List ℤ) (t : List Predecessor) (d : ℤ) : Type 0 where
  pub not_below_0 : pos 0 ≤ℤ d
  pub enough : d ≤ℤ pos (2 * label_floor)
  pub at_least : (v : ℕ) → neg_ℤ (pos label_floor) ≤ℤ number_at p v
  pub at_open : (v : ℕ) → IsOpen t v → number_at p v ≤ℤ pos 0
  pub at_reached : (v : ℕ) → IsReached t v → number_at p v ≤ℤ pos (cost_limit * rank_at t v)
  pub within : (v : ℕ) → IsReached t v → number_at p v ≤ℤ d

-- each node is open, or the search came to it, or it is none
pub by_kind : (p : List ℤ) (t : List Predecessor) → length t ≡ length p → (v : ℕ) → IsOpen t v ⊎ IsReached t v ⊎ (number_at p v ≡ pos 0)
by_kind p t sized v = elim (cases_lt v (length t)) [
  | inl lt ↦ elim (open_or_reached t v lt) [
    | inl is_open ↦ inl is_open
    | inr reached ↦ inr (inl reached)
  ]
  | inr past ↦ inr (inr (get_or_past p v (pos 0) (omega (arith, past, sized))))
]

pub bounded_climbing : (p : List ℤ) (t : List Predecessor) (d : ℤ) → length t ≡ length p → IsClimbing p t d → AreBounded potential_floor p
bounded_climbing p t d sized climbing = record {
  at_most = λ v. elim (by_kind p t sized v) [
    | inl is_open ↦ omega (arith, ints, climbing.at_open v is_open)
    | inr (inl reached) ↦ omega (arith, ints, climbing.within v reached, climbing.enough)
    | inr (inr none) ↦ omega (arith, ints, none)
  ];
  at_least = λ v. omega (arith, ints, climbing.at_least v);
}

module _ (arcs : List ArcRow) (x p : List ℤ) (t : List Predecessor) (q r : QueueView) (d : ℤ) (v : ℕ) (under : IsUnderway arcs x p t q d) (taken : IsTaken q r v)
    (along : IsAlong arcs x p t (entry_at q.entries v) v) (climbing : IsClimbing p t d) where
  key_is : key_at q.entries v ≡ (cost_at arcs (k arcs x p t q r d v under taken along) (way arcs x p t q r d v under taken along) +ℤ number_at p (start arcs x p t q r d v under taken along)) -ℤ number_at p v
  key_is = omega (arith, ints, potential_is arcs x p t q r d v under taken along)

  rank_low : rank_at t (start arcs x p t q r d v under taken along) + 2 ≤ entry_limit
  rank_low = omega (arith, under.search.ranked (start arcs x p t q r d v under taken along) along.crosses.from, one_less t v root_node (node_in arcs x p t q r d v under taken) (under.opens v taken.was) refl, under.search.sized, under.flow.few_nodes)

  pub key_enough : (pos 0 ≤ℤ key_at q.entries v) × (key_at q.entries v ≤ℤ pos (2 * label_floor))
  key_enough = (
    omega (arith, ints, later_along arcs x p t q r d v under taken along, climbing.not_below_0),
    omega (arith, ints, key_is, cost_along arcs x p t q r d v under taken along, climbing.at_least v, climbing.at_reached (start arcs x p t q r d v under taken along) along.crosses.from, rank_low),
  )

  pub climbing_after : IsClimbing (slice_set p v (number_at p v +ℤ key_at q.entries v)) (slice_set t v (come_from arcs t (entry_at q.entries v).end)) (key_at q.entries v)
  climbing_after =
      let by = come_from arcs t (entry_at q.entries v).end in
      let later = later_along arcs x p t q r d v under taken along in
      let here = number_here arcs x p t q r d v under taken by refl later in
      let node = node_in arcs x p t q r d v under taken in
      let was_open = under.opens v taken.was in
      record {
        not_below_0 = key_enough.0;
        enough = key_enough.1;
        at_least = λ u. elim (cases_eq u v) [
          | inl same ↦ omega (arith, ints, here, ap (number_at (slice_set p v (number_at p v +ℤ key_at q.entries v))) same, climbing.at_least v, key_enough.0)
          | inr ne ↦ omega (arith, ints, number_else arcs x p t q r d v under taken by refl later u ne, climbing.at_least u)
        ];
        at_open = λ u is_open.
            (let was = open_before t v by node was_open refl u is_open in
            let apart : u ≢ v = λ same. false≢true (sym (ap (λ (s : Predecessor). s.is_open) (is_there t v by node was_open refl)) ∙ subst (IsOpen (slice_set t v by)) same is_open) in
            omega (arith, ints, number_else arcs x p t q r d v under taken by refl later u apart, climbing.at_open u was));
        at_reached = all_reached t v by node was_open refl (λ u s. number_at (slice_set p v (number_at p v +ℤ key_at q.entries v)) u ≤ℤ pos (cost_limit * s.rank))
            (λ u was. omega (arith, ints, number_reached arcs x p t q r d v under taken by refl later u was, climbing.at_reached u was))
            (omega (arith, ints, here, potential_is arcs x p t q r d v under taken along, cost_along arcs x p t q r d v under taken along, climbing.at_reached (start arcs x p t q r d v under taken along) along.crosses.from));
        within = all_reached t v by node was_open refl (λ u s. number_at (slice_set p v (number_at p v +ℤ key_at q.entries v)) u ≤ℤ key_at q.entries v)
            (λ u was. omega (arith, ints, number_reached arcs x p t q r d v under taken by refl later u was, climbing.within u was, later))
            (omega (arith, ints, here, climbing.at_open v was_open));
      }

-- the node in deficit that was found, where there is one: else no node in deficit was reached
abbrev pub IsFirstFound : List ℤ → List Predecessor → Option ℕ → Type 0
IsFirstFound excess t found = MatchOption found ((v : ℕ) → IsReached t v → pos 0 ≤ℤ number_at excess v) (λ v. IsReached t v × (number_at excess v <ℤ pos 0))

-- the search from excess goes on
module _ (arcs : List ArcRow) (excess : List ℤ) (t : List Predecessor) (v end : ℕ) (node : v < length t) (was_open : IsOpen t v) where
  abbrev pub come : List Predecessor
  come = slice_set t v (come_from arcs t end)

  pub sources_after : ((u : ℕ) → pos 0 <ℤ number_at excess u → IsReached t u) → (u : ℕ) → pos 0 <ℤ number_at excess u → IsReached come u
  sources_after sources u high = still_reached t v (come_from arcs t end) node was_open refl u (sources u high)

  pub roots_after : ((u : ℕ) → IsReached t u → rank_at t u ≡ 0 → pos 0 <ℤ number_at excess u) → (u : ℕ) → IsReached come u → rank_at come u ≡ 0 → pos 0 <ℤ number_at excess u
  roots_after roots = all_reached t v (come_from arcs t end) node was_open refl (λ u s. s.rank ≡ 0 → pos 0 <ℤ number_at excess u) roots (λ none. absurd (omega (arith, none)))

  here_reached : IsReached come v
  here_reached = (omega (arith, node, length-set t v (come_from arcs t end)), ap (λ (s : Predecessor). s.is_open) (is_there t v (come_from arcs t end) node was_open refl))

  pub found_after : (before after : Option ℕ) → IfSome after (λ u. (before ≡ Some u) ⊎ ((u ≡ v) × (number_at excess u <ℤ pos 0))) → IfNone after ((before ≡ None) × (pos 0 ≤ℤ number_at excess v))
      → IsFirstFound excess t before → IsFirstFound excess come after
  found_after before None some none was =
      let before_none = subst (IsFirstFound excess t) none.0 was in
      all_reached t v (come_from arcs t end) node was_open refl (λ u s. pos 0 ≤ℤ number_at excess u) before_none none.1
  found_after before (Some u) some none was = elim some [
    | inl same ↦ (let found = subst (IsFirstFound excess t) same was in (still_reached t v (come_from arcs t end) node was_open refl u found.0, found.1))
    | inr here ↦ (subst (IsReached come) (sym here.0) here_reached, here.1)
  ]

-- a search from excess ends early
pub found_before_end : (arcs : List ArcRow) (x p excess : List ℤ) (t : List Predecessor) (found : Option ℕ) → IfNone found ⊥ → IsSearch arcs x p t
    → ((v : ℕ) → IsReached t v → rank_at t v ≡ 0 → pos 0 <ℤ number_at excess v) → IsFirstFound excess t found → IsDeficitFound arcs x p excess t found
found_before_end arcs x p excess t None some searched roots is = absurd some
found_before_end arcs x p excess t (Some v) some searched roots is = record { search = searched; roots = roots; reached = is.0; deficit = is.1 }

-- a search from excess ends
pub found_or_exhausted : (arcs : List ArcRow) (x p excess : List ℤ) (t : List Predecessor) (found : Option ℕ) → length t ≡ length excess → IsSearch arcs x p t → NoneCrosses arcs x t
    → ((v : ℕ) → pos 0 <ℤ number_at excess v → IsReached t v) → ((v : ℕ) → IsReached t v → rank_at t v ≡ 0 → pos 0 <ℤ number_at excess v)
    → IsFirstFound excess t found → IsDeficitFound arcs x p excess t found
found_or_exhausted arcs x p excess t None sized searched none sources roots is = record { sized = sized; from = record { sources = sources; roots = roots; no_deficit = is }; none_crosses = none }
found_or_exhausted arcs x p excess t (Some v) sized searched none sources roots is = record { search = searched; roots = roots; reached = is.0; deficit = is.1 }

-- what a search leaves is a forest, whatever is pushed then
pub forest_of : {arcs : List ArcRow} {x p : List ℤ} {t : List Predecessor} → IsSearch arcs x p t → IsForest arcs p t
forest_of search = record {
  sized = search.sized;
  hung = λ v reached deep.
      (let by = search.paths v reached deep in
      record { is_arc = by.residual.is_arc; ends = by.ends; reached = by.reached; deeper = by.deeper });
  tight = search.tight;
}

-- a search begins: each node that it reached is a root
pub search_first : (arcs : List ArcRow) (x p : List ℤ) (t : List Predecessor) → length t ≡ length p → ((v : ℕ) → rank_at t v ≡ 0) → IsSearch arcs x p t
search_first arcs x p t sized flat = record {
  sized = sized;
  ranked = λ v reached. omega (arith, flat v, one_reached t v reached);
  paths = λ v reached deep. absurd (omega (arith, flat v, deep));
  tight = λ v reached deep. absurd (omega (arith, flat v, deep));
}

none_below_first : (arcs : List ArcRow) (x p : List ℤ) (t : List Predecessor) → NoneBelow arcs x p → NoneBelowBy arcs x (risen p t (pos 0))
none_below_first arcs x p t none k way residual = omega (arith, ints, none k way residual, same (start_at arcs k way), same (end_at arcs k way))
  where
    either : (b : Bool) (n : ℤ) → risen_by b (pos 0) n ≡ n
    either true n = omega (arith, ints)
    either false n = refl

    same : (v : ℕ) → risen p t (pos 0) v ≡ number_at p v
    same v = either (predecessor_at t v).is_open (number_at p v)

-- all residual arcs from the roots were offered
module _ (arcs : List ArcRow) (x p : List ℤ) (t : List Predecessor) (q r : QueueView) (certified : IsReducedCostOptimal arcs x p) (sized : length t ≡ length p) (flat : (v : ℕ) → rank_at t v ≡ 0)
    (as_many : length q.entries ≡ length p) (none : (v : ℕ) → IsIn q v → ⊥) (grown : HaveJoined arcs x p t q r) where
  pub along_first : AreAlong arcs x p t r
  along_first v inside = elim (grown.entries v inside) [
    | inl before ↦ absurd (none v before.0)
    | inr along ↦ along
  ]

  pub underway_first : AreServed arcs x p t r → IsUnderway arcs x p t r (pos 0)
  underway_first served = record {
    flow = certified.flow;
    search = search_first arcs x p t sized flat;
    none_below = none_below_first arcs x p t certified.none_below;
    sized = grown.sized ∙ as_many;
    opens = λ v inside. (let along = along_first v inside in subst (IsOpen t) along.ends along.crosses.to);
    served = served;
  }

pub climbing_first : (p : List ℤ) (t : List Predecessor) → ArePotentials (length p) label_floor p → IsClimbing p t (pos 0)
climbing_first p t potentials = record {
  not_below_0 = omega (arith, ints);
  enough = omega (arith, ints);
  at_least = potentials.at_least;
  at_open = λ v is_open. potentials.at_most_0 v;
  at_reached = λ v reached. omega (arith, ints, potentials.at_most_0 v);
  within = λ v reached. potentials.at_most_0 v;
}

-- the search ends: the nodes that it reached fall by as far as it has come
module _ (arcs : List ArcRow) (x p : List ℤ) (t : List Predecessor) (d : ℤ) (flow : IsPseudoflow (length p) arcs x) (search : IsSearch arcs x p t) (none : NoneBelowBy arcs x (risen p t d))
    (climbing : IsClimbing p t d) (q : List ℤ) (lowered : AreLowered p q t d) where
  fallen : (v : ℕ) → IsOpen t v ⊎ IsReached t v → number_at q v ≡ risen p t d v -ℤ d
  fallen v (inl is_open) = omega (arith, ints, lowered.at_open v is_open, risen_open p t d v is_open)
  fallen v (inr reached) = omega (arith, ints, lowered.at_reached v reached, risen_reached p t d v reached)

  pub certified_lowered : IsReducedCostOptimal arcs x q
  certified_lowered = record {
    flow = subst (λ (n : ℕ). IsPseudoflow n arcs x) (sym lowered.same_length) flow;
    potentials = record {
      sized = refl;
      at_most_0 = λ v. elim (by_kind p t search.sized v) [
        | inl is_open ↦ omega (arith, ints, lowered.at_open v is_open, climbing.at_open v is_open)
        | inr (inl reached) ↦ omega (arith, ints, lowered.at_reached v reached, climbing.within v reached)
        | inr (inr past) ↦ omega (arith, ints, past_end v past)
      ];
      at_least = λ v. elim (by_kind p t search.sized v) [
        | inl is_open ↦ omega (arith, ints, lowered.at_open v is_open, climbing.at_least v)
        | inr (inl reached) ↦ omega (arith, ints, lowered.at_reached v reached, climbing.at_least v, climbing.enough)
        | inr (inr past) ↦ omega (arith, ints, past_end v past)
      ];
    };
    none_below = λ k way residual. omega (arith, ints, none k way residual, fallen (start_at arcs k way) (start_kind arcs x p t flow search.sized k way residual), fallen (end_at arcs k way) (end_kind arcs x p t flow search.sized k way residual));
  }
    where
      past_end : (v : ℕ) → number_at p v ≡ pos 0 → (neg_ℤ (pos potential_floor) ≤ℤ number_at q v) × (number_at q v ≤ℤ pos 0)
      past_end v zero_there = elim (cases_lt v (length q)) [
        | inl lt ↦ elim (open_or_reached t v (omega (arith, lt, lowered.same_length, search.sized))) [
          | inl is_open ↦ (omega (arith, ints, lowered.at_open v is_open, zero_there), omega (arith, ints, lowered.at_open v is_open, zero_there))
          | inr reached ↦ (omega (arith, ints, lowered.at_reached v reached, climbing.at_least v, climbing.enough), omega (arith, ints, lowered.at_reached v reached, climbing.within v reached))
        ]
        | inr past ↦ (omega (arith, ints, get_or_past q v (pos 0) past), omega (arith, ints, get_or_past q v (pos 0) past))
      ]

  pub search_lowered : IsSearch arcs x q t
  search_lowered = record {
    sized = search.sized ∙ sym lowered.same_length;
    ranked = search.ranked;
    paths = search.paths;
    tight = λ v reached deep.
        (let by = search.paths v reached deep in
        omega (arith, ints, search.tight v reached deep, lowered.at_reached _ by.reached, lowered.at_reached (end_at arcs (arc_to t v) (way_to t v)) (subst (IsReached t) (sym by.ends) reached)));
  }

-- ---- the search for the greatest potentials

-- each open node waits, for no more than its potential lies below 0: for as much, or by a residual arc
pub record IsRising (arcs : List ArcRow) (x p : List ℤ) (t : List Predecessor) (q : QueueView) (d : ℤ) : Type 0 where
  pub raised : AreRaised p t
  pub potentials : ArePotentials (length p) potential_floor p
  pub not_below_0 : pos 0 ≤ℤ d
  pub waits : (v : ℕ) → IsOpen t v → IsIn q v × (key_at q.entries v ≤ℤ neg_ℤ (number_at p v))
  pub entries : (v : ℕ) → IsIn q v → (key_at q.entries v ≡ neg_ℤ (number_at p v)) ⊎ IsAlong arcs x p t (entry_at q.entries v) v
  pub up : (v : ℕ) → IsOpen t v → (number_at p v +ℤ d) ≤ℤ pos 0

pub bounded_rising : (p : List ℤ) → ArePotentials (length p) potential_floor p → AreBounded potential_floor p
bounded_rising p potentials = record { at_most = λ v. omega (arith, ints, potentials.at_most_0 v); at_least = potentials.at_least }

module _ (arcs : List ArcRow) (x p : List ℤ) (t : List Predecessor) (q r : QueueView) (d : ℤ) (v : ℕ) (under : IsUnderway arcs x p t q d) (taken : IsTaken q r v) (rising : IsRising arcs x p t q d) where
  opened : IsOpen t v
  opened = under.opens v taken.was

  there : v < length t
  there = node_in arcs x p t q r d v under taken

  pub later_rising : d ≤ℤ key_at q.entries v
  later_rising = elim (rising.entries v taken.was) [
    | inl root ↦ omega (arith, ints, root, rising.up v opened)
    | inr along ↦ later_along arcs x p t q r d v under taken along
  ]

  -- the potential that it gets
  pub potential_in : (neg_ℤ (pos potential_floor) ≤ℤ (number_at p v +ℤ key_at q.entries v)) × ((number_at p v +ℤ key_at q.entries v) ≤ℤ pos 0)
  potential_in = (
    omega (arith, ints, rising.potentials.at_least v, later_rising, rising.not_below_0),
    omega (arith, ints, (rising.waits v opened).1),
  )

  -- where that is below 0, it waits by a residual arc
  pub root_or_along : (number_at p v +ℤ key_at q.entries v) <ℤ pos 0 → IsAlong arcs x p t (entry_at q.entries v) v
  root_or_along below = elim (rising.entries v taken.was) [
    | inl root ↦ absurd (omega (arith, ints, below, root))
    | inr along ↦ along
  ]

  pub search_root : IsSearch arcs x (slice_set p v (number_at p v +ℤ key_at q.entries v)) (slice_set t v root_node)
  search_root = search_on arcs x (slice_set p v (number_at p v +ℤ key_at q.entries v)) t v root_node there opened refl (search_kept arcs x p t q r d v under taken root_node refl later_rising)
      (omega (arith, one_less t v root_node there opened refl, count_by-le-length (λ (s : Predecessor). s.is_open) t)) (λ some. absurd (omega (arith, some)))

  pub raised_root : pos 0 ≤ℤ (number_at p v +ℤ key_at q.entries v) → AreRaised (slice_set p v (number_at p v +ℤ key_at q.entries v)) (slice_set t v root_node)
  raised_root high =
      let at_0 : (number_at p v +ℤ key_at q.entries v) ≡ pos 0 = omega (arith, ints, high, potential_in) in
      let here = number_here arcs x p t q r d v under taken root_node refl later_rising in
      let before = number_reached arcs x p t q r d v under taken root_node refl later_rising in
      record {
        roots = all_reached t v root_node there opened refl (λ u s. s.rank ≡ 0 → number_at (slice_set p v (number_at p v +ℤ key_at q.entries v)) u ≡ pos 0) (λ u was none. before u was ∙ rising.raised.roots u was none) (λ none. here ∙ at_0);
        at_least = all_reached t v root_node there opened refl (λ u s. neg_ℤ (pos (cost_limit * s.rank)) ≤ℤ number_at (slice_set p v (number_at p v +ℤ key_at q.entries v)) u)
            (λ u was. omega (arith, ints, before u was, rising.raised.at_least u was)) (omega (arith, ints, here, at_0));
      }

  pub raised_along : (along : IsAlong arcs x p t (entry_at q.entries v) v) → AreRaised (slice_set p v (number_at p v +ℤ key_at q.entries v)) (slice_set t v (come_from arcs t (entry_at q.entries v).end))
  raised_along along =
      let by = come_from arcs t (entry_at q.entries v).end in
      let here = number_here arcs x p t q r d v under taken by refl later_rising in
      let before = number_reached arcs x p t q r d v under taken by refl later_rising in
      record {
        roots = all_reached t v by there opened refl (λ u s. s.rank ≡ 0 → number_at (slice_set p v (number_at p v +ℤ key_at q.entries v)) u ≡ pos 0) (λ u was none. before u was ∙ rising.raised.roots u was none) (λ none. absurd (omega (arith, none)));
        at_least = all_reached t v by there opened refl (λ u s. neg_ℤ (pos (cost_limit * s.rank)) ≤ℤ number_at (slice_set p v (number_at p v +ℤ key_at q.entries v)) u)
            (λ u was. omega (arith, ints, before u was, rising.raised.at_least u was))
            (omega (arith, ints, here, potential_is arcs x p t q r d v under taken along, cost_along arcs x p t q r d v under taken along, rising.raised.at_least (start_at arcs ((entry_at q.entries v).end / 2) (end_way (entry_at q.entries v).end)) along.crosses.from));
      }

  module _ (e : Predecessor) (closed : e.is_open ≡ false) (s : QueueView)
      (grown : HaveJoined arcs x (slice_set p v (number_at p v +ℤ key_at q.entries v)) (slice_set t v e) r s) (raised : AreRaised (slice_set p v (number_at p v +ℤ key_at q.entries v)) (slice_set t v e)) where
    abbrev higher : List ℤ
    higher = slice_set p v (number_at p v +ℤ key_at q.entries v)

    abbrev settled : List Predecessor
    settled = slice_set t v e

    other : (u : ℕ) → u ≢ v → number_at higher u ≡ number_at p u
    other = number_else arcs x p t q r d v under taken e closed later_rising

    here : number_at higher v ≡ number_at p v +ℤ key_at q.entries v
    here = number_here arcs x p t q r d v under taken e closed later_rising

    still_apart : (u : ℕ) → IsOpen settled u → u ≢ v
    still_apart u is_open same = false≢true (sym (ap (λ (n : Predecessor). n.is_open) (is_there t v e there opened closed) ∙ closed) ∙ subst (IsOpen settled) same is_open)

    same_key : (u : ℕ) → key_at r.entries u ≡ key_at q.entries u
    same_key u = ap (λ (l : List Waiting). key_at l u) taken.same

    pub rising_after : IsRising arcs x higher settled s (key_at q.entries v)
    rising_after = record {
      raised = raised;
      potentials = record {
        sized = refl;
        at_most_0 = λ u. elim (cases_eq u v) [
          | inl same ↦ omega (arith, ints, ap (number_at higher) same, here, potential_in)
          | inr ne ↦ omega (arith, ints, other u ne, rising.potentials.at_most_0 u)
        ];
        at_least = λ u. elim (cases_eq u v) [
          | inl same ↦ omega (arith, ints, ap (number_at higher) same, here, potential_in)
          | inr ne ↦ omega (arith, ints, other u ne, rising.potentials.at_least u)
        ];
      };
      not_below_0 = omega (arith, ints, later_rising, rising.not_below_0);
      waits = λ u is_open.
          (let ne = still_apart u is_open in
          let was = rising.waits u (open_before t v e there opened closed u is_open) in
          let kept = grown.kept u (taken.kept u ne was.0) in
          (kept.0, omega (arith, ints, kept.1, was.1, same_key u, other u ne)));
      entries = λ u inside. elim (grown.entries u inside) [
        | inl before ↦ elim (rising.entries u (taken.before u before.0).0) [
          | inl root ↦ inl (omega (arith, ints, ap (λ (n : Waiting). n.key) before.1, same_key u, root, other u (taken.before u before.0).1))
          | inr along ↦ inr (subst (λ (n : Waiting). IsAlong arcs x higher settled n u) (sym before.1) (along_before arcs x p t q r d v under taken e closed later_rising u before.0 along))
        ]
        | inr new ↦ inr new
      ];
      up = λ u is_open.
          (let ne = still_apart u is_open in
          let was = rising.waits u (open_before t v e there opened closed u is_open) in
          omega (arith, ints, taken.least u was.0, was.1, other u ne));
    }

-- all nodes are open, and wait
module _ (arcs : List ArcRow) (x p : List ℤ) (t : List Predecessor) (q : QueueView) (certified : IsReducedCostOptimal arcs x p) (sized : length t ≡ length p) (all_open : (v : ℕ) → v < length t → IsOpen t v) (offered : AreOffered p q) where
  none_reached : (v : ℕ) → IsReached t v → ⊥
  none_reached v reached = not_both t v (all_open v reached.0) reached

  pub rising_first : IsRising arcs x p t q (pos 0)
  rising_first = record {
    raised = record { roots = λ v reached none. absurd (none_reached v reached); at_least = λ v reached. absurd (none_reached v reached) };
    potentials = certified.potentials;
    not_below_0 = omega (arith, ints);
    waits = λ v is_open. (let inside = offered.all v (omega (arith, open_in t v is_open, sized)) in (inside, omega (arith, ints, offered.keys v inside)));
    entries = λ v inside. inl (offered.keys v inside);
    up = λ v is_open. omega (arith, ints, certified.potentials.at_most_0 v);
  }

  pub underway_rising : IsUnderway arcs x p t q (pos 0)
  underway_rising = record {
    flow = certified.flow;
    search = record {
      sized = sized;
      ranked = λ v reached. absurd (none_reached v reached);
      paths = λ v reached deep. absurd (none_reached v reached);
      tight = λ v reached deep. absurd (none_reached v reached);
    };
    none_below = none_below_first arcs x p t certified.none_below;
    sized = offered.sized;
    opens = λ v inside. all_open v (omega (arith, inside.0, offered.sized, sized));
    served = λ k way at. absurd (none_reached _ at.from);
  }

-- where no node waits, none is open, and the potentials are the greatest
module _ (arcs : List ArcRow) (x p : List ℤ) (t : List Predecessor) (q : QueueView) (d : ℤ) (under : IsUnderway arcs x p t q d) (rising : IsRising arcs x p t q d) (none : (v : ℕ) → IsIn q v → ⊥) where
  all_come : (v : ℕ) → v < length p → IsReached t v
  all_come v lt = elim (open_or_reached t v (rw under.search.sized lt)) [
    | inl is_open ↦ absurd (none v (rising.waits v is_open).0)
    | inr reached ↦ reached
  ]

  traced : (v : ℕ) → v < length p → IsTracedAt arcs x p t v
  traced v lt = elim (cases_lt 0 (rank_at t v)) [
    | inl deep ↦
        (let by = under.search.paths v (all_come v lt) deep in
        inr (
          by.residual.is_arc,
          record {
            has_room = by.residual.has_room;
            ends = by.ends;
            lower = omega (arith, by.deeper);
            tight = under.search.tight v (all_come v lt) deep;
          },
        ))
    | inr flat ↦ inl (rising.raised.roots v (all_come v lt) (omega (arith, flat)))
  ]

  pub greatest_raised : AreGreatest arcs x p
  greatest_raised = greatest_of arcs x p t traced

  pub within_raised : ArePotentials (length p) label_floor p
  within_raised = record {
    sized = refl;
    at_most_0 = rising.potentials.at_most_0;
    at_least = λ v. elim (cases_lt v (length p)) [
      | inl lt ↦ omega (arith, ints, rising.raised.at_least v (all_come v lt), under.search.ranked v (all_come v lt), under.search.sized, under.flow.few_nodes)
      | inr past ↦ omega (arith, ints, get_or_past p v (pos 0) past)
    ];
  }

  pub certified_raised : IsReducedCostOptimal arcs x p
  certified_raised = record {
    flow = under.flow;
    potentials = rising.potentials;
    none_below = λ k way residual.
        (let row = under.flow.rows k residual.is_arc in
        omega (
          arith,
          ints,
          under.none_below k way residual,
          risen_reached p t d (start_at arcs k way) (all_come (start_at arcs k way) (start_of-in (length p) (row_at arcs k) way row)),
          risen_reached p t d (end_at arcs k way) (all_come (end_at arcs k way) (end_of-in (length p) (row_at arcs k) way row)),
        ));
  }

pub below_or_not : (z : ℤ) → (z <ℤ pos 0) ⊎ (pos 0 ≤ℤ z)
below_or_not (pos n) = inr (omega (arith, ints))
below_or_not (negsuc n) = inl (omega (arith, ints))

-- what is known of the first node is what was known while it waited
pub was_waiting : (q r : QueueView) (v : ℕ) (w : Waiting) → IsTaken q r v → w ≡ entry_at r.entries v → w ≡ entry_at q.entries v
was_waiting q r v w taken is = is ∙ ap (λ (l : List Waiting). entry_at l v) taken.same
