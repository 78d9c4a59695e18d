-- Changes of a flow that turn in no circle are pushes: one unit after the other, each along a path of changes.
use Rattle.std.proofs.Common.{◌≡◌, ◌≢◌, ◌⊎◌, ℕ, zero, suc, ◌+◌, ◌<◌, ◌≤◌, ℤ, pos, negsuc, neg_ℤ, ◌-ℤ◌, ◌+ℤ◌, ◌≤ℤ◌, ◌<ℤ◌, List, [], ◌∷◌, length, refl, sym, ap, subst, ◌∙◌, inl, inr, arith}
use Rattle.std.specs.Prelude.{slice_set}
use Rattle.std.specs.List.{All, AllPairs}
use Rattle.std.proofs.Math.IntN.{ℤ_discrete}
use Rattle.std.proofs.Math.Logic.{dite}
use Rattle.std.proofs.lemmas.Int.{ints}
use Rattle.std.proofs.lemmas.Bool.{cases_eq}
use Rattle.std.proofs.lemmas.List.{get_or-set_same, get_or-set_other, length-set}
use Rattle.std.proofs.lemmas.List.Elements.{All-head, All-tail, All-weaker}
use Rattle.std.proofs.lemmas.List.Sums.{sum_by-set}
use Rattle.dimacs_text.specs.declared.problem.ArcRow.{ArcRow}
use Rattle.network.specs.Flow.{net}
use Rattle.residual_graph.specs.declared.residual.ResidualArc.{ResidualArc}
use Rattle.residual_graph.specs.declared.residual.Way.{Way}
use Rattle.residual_graph.specs.declared.residual.Way.TheVariants.{Forward, Backward}
use Rattle.residual_graph.specs.Residual.{IsPseudoflow, IsWithinRow, end_at, number_at, room_of, row_at, start_at}
use Rattle.flow_changes.specs.Push.{ArePushes, HasRoom, IsPath, IsTransfer, left, moved, nodes_on, part_above_0, push_along}
use Rattle.flow_changes.specs.Changes.{IsAcyclicChange, IsNearer, IsWantedPath, RisesAt, wanted_along, wanted_of}
use Rattle.flow_changes.proofs.PushLemmas.{AreApart, Avoids, IsTransfer-put, at_other, at_same, net-along}
use Rattle.flow_changes.proofs.WantedPaths.{wanted_path}
use Rattle.flow_changes.proofs.PushesLemmas.{ArePushes-more, ArePushes-none, IsMoving, IsRoom, left-mono, moving_after, one_push, part_above_0-mono}

-- ---- the arcs of a path

AllPairs-head : {X : Type 0} (R : X → X → Type 0) (x : X) (xs : List X) → AllPairs R (x ∷ xs) → All (R x) xs
AllPairs-head R x xs all j d lt = all 0 (suc j) d (omega arith) (omega arith)

AllPairs-tail : {X : Type 0} (R : X → X → Type 0) (x : X) (xs : List X) → AllPairs R (x ∷ xs) → AllPairs R xs
AllPairs-tail R x xs all i j d lt below = all (suc i) (suc j) d (omega arith) (omega arith)

-- what is true of each node is true of the first one
first_on : (P : ℕ → Type 0) (rows : List ArcRow) (hops : List ResidualArc) (v : ℕ) → All P (nodes_on rows hops v) → P v
first_on P rows [] v all = All-head P v [] all
first_on P rows (h ∷ hops) v all = All-head P v (nodes_on rows hops (end_at rows h.arc h.way)) all

-- an arc with an end that is none of a path's nodes is none of the path's
avoids_off : (rows : List ArcRow) (k : ℕ) (way : Way) (hops : List ResidualArc) (v w : ℕ) → IsPath rows hops v w → All (λ u. start_at rows k way ≢ u) (nodes_on rows hops v) → Avoids k hops
avoids_off rows k way [] v w path off = tt
avoids_off rows k way (h ∷ hops) v w path off =
    let rest = nodes_on rows hops (end_at rows h.arc h.way) in
    let off_start : start_at rows k way ≢ v = All-head (λ u. start_at rows k way ≢ u) v rest off in
    let off_rest = All-tail (λ u. start_at rows k way ≢ u) v rest off in
    let off_end : start_at rows k way ≢ end_at rows h.arc h.way = first_on (λ u. start_at rows k way ≢ u) rows hops (end_at rows h.arc h.way) off_rest in (
      λ same. off_both h.way way same off_start off_end path.0,
      avoids_off rows k way hops (end_at rows h.arc h.way) w path.1 off_rest,
    )
  where
    off_both : (a b : Way) → h.arc ≡ k → start_at rows k b ≢ v → start_at rows k b ≢ end_at rows h.arc a → start_at rows h.arc a ≡ v → ⊥
    off_both Forward Forward same off_v off_w is = off_v (sym (ap (λ (j : ℕ). start_at rows j Forward) same) ∙ is)
    off_both Backward Backward same off_v off_w is = off_v (sym (ap (λ (j : ℕ). start_at rows j Backward) same) ∙ is)
    off_both Forward Backward same off_v off_w is = off_w (sym (ap (λ (j : ℕ). start_at rows j Backward) same))
    off_both Backward Forward same off_v off_w is = off_w (sym (ap (λ (j : ℕ). start_at rows j Forward) same))

-- a path that meets no node twice takes no arc twice
pub apart_of : (rows : List ArcRow) (hops : List ResidualArc) (v w : ℕ) → IsPath rows hops v w → AllPairs ◌≢◌ (nodes_on rows hops v) → All (λ h. h.arc < length rows) hops → AreApart rows hops
apart_of rows [] v w path simple arcs = tt
apart_of rows (h ∷ hops) v w path simple arcs =
    let rest = nodes_on rows hops (end_at rows h.arc h.way) in
    let off : All (λ u. start_at rows h.arc h.way ≢ u) rest = All-weaker (λ u. v ≢ u) (λ u. start_at rows h.arc h.way ≢ u) (λ u ne same. ne (sym path.0 ∙ same)) rest (AllPairs-head ◌≢◌ v rest simple) in (
      All-head (λ g. g.arc < length rows) h hops arcs,
      avoids_off rows h.arc h.way hops (end_at rows h.arc h.way) w path.1 off,
      apart_of rows hops (end_at rows h.arc h.way) w path.1 (AllPairs-tail ◌≢◌ v rest simple) (All-tail (λ g. g.arc < length rows) h hops arcs),
    )

-- ---- where two lists differ

-- two lists differ at this place
record DifferSomewhere (x y : List ℤ) : Type 0 where
  place : ℕ
  in_list : place < length x
  differs : number_at x place ≢ number_at y place

same_or_differ : (x y : List ℤ) → length x ≡ length y → (x ≡ y) ⊎ DifferSomewhere x y
same_or_differ [] [] sized = inl refl
same_or_differ [] (b ∷ y) sized = absurd (omega arith)
same_or_differ (a ∷ x) [] sized = absurd (omega arith)
same_or_differ (a ∷ x) (b ∷ y) sized =
    dite (ℤ_discrete a b)
    (λ same. (elim (same_or_differ x y (omega arith)) [
      | inl rest ↦ inl (cc)
      | inr at ↦ inr (record { place = suc at.place; in_list = omega (arith, at.in_list); differs = at.differs })
    ]))
    (λ ne. inr (record { place = 0; in_list = omega arith; differs = ne }))

same_lists : (e f : List ℤ) → length e ≡ length f → ((v : ℕ) → number_at e v ≡ number_at f v) → e ≡ f
same_lists e f sized same = elim (same_or_differ e f sized) [
  | inl equal ↦ equal
  | inr at ↦ absurd (at.differs (same at.place))
]

-- ---- one unit more along a hop on which something is wanted

-- what x is to change by to become y, z is to change by in the same direction or not at all
record IsTowards (x z y : ℤ) : Type 0 where
  more : z <ℤ y → x <ℤ y
  less : y <ℤ z → y <ℤ x

unit_towards : (way : Way) (x y : ℤ) → pos 1 ≤ℤ wanted_of x y way → IsTowards x (moved way x (pos 1)) y
unit_towards Forward x y wanted = record { more = λ h. omega (arith, ints, h); less = λ h. omega (arith, ints, h, wanted) }
unit_towards Backward x y wanted = record { more = λ h. omega (arith, ints, h, wanted); less = λ h. omega (arith, ints, h) }

-- a unit more is wanted on each hop
abbrev AreWanted : List ℤ → List ℤ → List ResidualArc → Type 0
AreWanted x y [] = Unit {0}
AreWanted x y (h ∷ hops) = (pos 1 ≤ℤ wanted_along x y h) × AreWanted x y hops

wanted_of_all : (x y : List ℤ) (hops : List ResidualArc) → All (λ h. pos 1 ≤ℤ wanted_along x y h) hops → AreWanted x y hops
wanted_of_all x y [] all = tt
wanted_of_all x y (h ∷ hops) all = (All-head (λ g. pos 1 ≤ℤ wanted_along x y g) h hops all, wanted_of_all x y hops (All-tail (λ g. pos 1 ≤ℤ wanted_along x y g) h hops all))

-- also where an arc that they do not take was written
wanted-set : (x y : List ℤ) (k : ℕ) (z : ℤ) (hops : List ResidualArc) → Avoids k hops → AreWanted x y hops → AreWanted (slice_set x k z) y hops
wanted-set x y k z [] apart wanted = tt
wanted-set x y k z (h ∷ hops) apart wanted =
    (rw (get_or-set_other x k h.arc z (pos 0) apart.0) wanted.0, wanted-set x y k z hops apart.1 wanted.1)

-- a unit along such hops leads no arc past what it is to carry
along_towards : (rows : List ArcRow) (x y : List ℤ) (hops : List ResidualArc) → length x ≡ length rows → AreApart rows hops → AreWanted x y hops → (k : ℕ) → IsTowards (number_at x k) (number_at (push_along hops (pos 1) x) k) (number_at y k)
along_towards rows x y [] sized apart wanted k = record { more = λ h. h; less = λ h. h }
along_towards rows x y (h ∷ hops) sized apart wanted k =
    let z = moved h.way (number_at x h.arc) (pos 1) in
    let rest = along_towards rows (slice_set x h.arc z) y hops (length-set x h.arc z ∙ sized) apart.2 (wanted-set x y h.arc z hops apart.1 wanted.1) k in
    let here : IsTowards (number_at x k) (number_at (slice_set x h.arc z) k) (number_at y k) = (elim (cases_eq k h.arc) [
      | inl same ↦ subst (λ (j : ℕ). IsTowards (number_at x j) (number_at (slice_set x h.arc z) j) (number_at y j)) (sym same)
          (rw (get_or-set_same x h.arc z (pos 0) (omega (arith, sized, apart.0))) (unit_towards h.way (number_at x h.arc) (number_at y h.arc) wanted.0))
      | inr ne ↦ rw (get_or-set_other x h.arc k z (pos 0) ne) (record { more = λ h. h; less = λ h. h })
    ]) in
    record { more = λ h. here.more (rest.more h); less = λ h. here.less (rest.less h) }

unit_fits : (way : Way) (a : ArcRow) (x y : ℤ) → IsWithinRow a y → pos 1 ≤ℤ wanted_of x y way → pos 1 ≤ℤ room_of a x way
unit_fits Forward a x y within wanted = omega (arith, ints, within.cap_kept, wanted)
unit_fits Backward a x y within wanted = omega (arith, ints, within.low_kept, wanted)

-- what is wanted fits
wanted_fits : (nodes : ℕ) (rows : List ArcRow) (x y : List ℤ) (hops : List ResidualArc) → IsPseudoflow nodes rows y → AreApart rows hops → AreWanted x y hops → HasRoom rows x (pos 1) hops
wanted_fits nodes rows x y [] flow apart wanted = tt
wanted_fits nodes rows x y (h ∷ hops) flow apart wanted = (
  unit_fits h.way (row_at rows h.arc) (number_at x h.arc) (number_at y h.arc) (flow.within h.arc apart.0) wanted.0,
  wanted_fits nodes rows x y hops flow apart.2 wanted.1,
)

-- what lies in excess where a unit is taken, and where one is missing
part_above_0-one_less : (z w : ℤ) → w ≡ z -ℤ pos 1 → pos 1 ≤ℤ z → part_above_0 z ≡ suc (part_above_0 w)
part_above_0-one_less (pos m) (pos n) one some = omega (arith, ints, one)
part_above_0-one_less (pos m) (negsuc n) one some = absurd (omega (arith, ints, one, some))
part_above_0-one_less (negsuc m) w one some = absurd (omega (arith, ints, some))

part_above_0-none : (z : ℤ) → z ≤ℤ pos 0 → part_above_0 z ≡ 0
part_above_0-none (pos n) low = omega (arith, ints, low)
part_above_0-none (negsuc n) low = refl

-- ---- one unit from a node that has something to give to one that has something to take

module _ {nodes : ℕ} {rows : List ArcRow} {x e y f : List ℤ} {ranks : List ℕ} (change : IsAcyclicChange nodes rows x e y f ranks) (path : IsWantedPath nodes rows x e y f) where
  -- what is left at the ends of the path, and what lies on its arcs, after one unit
  abbrev given : ℤ
  given = number_at e path.source -ℤ pos 1

  abbrev taken : ℤ
  taken = number_at e path.target +ℤ pos 1

  abbrev next_flow : List ℤ
  next_flow = push_along path.hops (pos 1) x

  abbrev next_excess : List ℤ
  next_excess = slice_set (slice_set e path.source given) path.target taken

  two_ends : path.source ≡ path.target → ⊥
  two_ends same =
      let equal : number_at e path.source ≡ number_at e path.target = ap (number_at e) same in
      omega (arith, ints, equal, path.gives.0, path.gives.1, path.takes.0, path.takes.1)

  source_in : path.source < length e
  source_in = omega (arith, path.source_in, change.excess_sized)

  target_in : path.target < length e
  target_in = omega (arith, path.target_in, change.excess_sized)

  target_kept : number_at (slice_set e path.source given) path.target ≡ number_at e path.target
  target_kept = get_or-set_other e path.source path.target given (pos 0) (λ h. two_ends (sym h))

  transfer : IsTransfer path.source path.target (pos 1) e next_excess
  transfer = IsTransfer-put path.source path.target (pos 1) e given taken source_in target_in two_ends refl (ap (λ (z : ℤ). z +ℤ pos 1) (sym target_kept))

  apart : AreApart rows path.hops
  apart = apart_of rows path.hops path.source path.target path.leads path.simple path.arcs

  wanted : AreWanted x y path.hops
  wanted = wanted_of_all x y path.hops path.wanted

  moving : IsMoving nodes rows x e
  moving = record { flow = change.before; excess_sized = change.excess_sized; small = change.small }

  room : IsRoom rows x (pos 1) path.hops path.source path.target
  room = record {
    leads = path.leads;
    simple = path.simple;
    apart = apart;
    room = wanted_fits nodes rows x y path.hops change.after apart wanted;
  }

  in_excess : pos 1 ≤ℤ number_at e path.source
  in_excess = omega (arith, ints, path.gives.0, path.gives.1)

  in_deficit : number_at e path.target ≤ℤ neg_ℤ (pos 1)
  in_deficit = omega (arith, ints, path.takes.0, path.takes.1)

  one_unit : ArePushes rows 1 x e next_flow next_excess
  one_unit = one_push nodes rows x e path.hops path.source path.target (pos 1) next_excess moving room (omega (arith, ints)) path.source_in in_excess in_deficit transfer

  moved_on : IsMoving nodes rows next_flow next_excess
  moved_on = moving_after nodes rows x e path.hops path.source path.target (pos 1) next_excess moving room (omega (arith, ints)) path.source_in in_excess in_deficit transfer

  -- neither end is led past what is to lie there
  nearer_after : (v : ℕ) → IsNearer (number_at next_excess v) (number_at f v)
  nearer_after v = elim (cases_eq v path.source) [
    | inl same ↦ subst (λ (u : ℕ). IsNearer (number_at next_excess u) (number_at f u)) (sym same)
        (inl (path.gives.0, omega (arith, ints, transfer.by_node path.source, at_same path.source (pos 1), at_other path.target (pos 1) path.source two_ends, path.gives.1)))
    | inr not_source ↦ (elim (cases_eq v path.target) [
      | inl same ↦ subst (λ (u : ℕ). IsNearer (number_at next_excess u) (number_at f u)) (sym same)
          (inr (omega (arith, ints, transfer.by_node path.target, at_same path.target (pos 1), at_other path.source (pos 1) path.target (λ h. two_ends (sym h)), path.takes.0), path.takes.1))
      | inr not_target ↦ subst (λ (z : ℤ). IsNearer z (number_at f v)) (omega (arith, ints, transfer.by_node v, at_other path.source (pos 1) v not_source, at_other path.target (pos 1) v not_target)) (change.nearer v)
    ])
  ]

  -- the changes that are left are some of those that were
  rises_after : (k : ℕ) → k < length rows → RisesAt rows next_flow y ranks k
  rises_after k lt =
      let towards = along_towards rows x y path.hops change.before.same_length apart wanted k in
      let rises = change.rises k lt in
      record { more = λ h. rises.more (towards.more h); less = λ h. rises.less (towards.less h) }

  -- what is left to change
  change_after : IsAcyclicChange nodes rows next_flow next_excess y f ranks
  change_after = record {
    before = moved_on.flow;
    after = change.after;
    excess_sized = moved_on.excess_sized;
    after_sized = change.after_sized;
    small = moved_on.small;
    excess = λ v. omega (arith, ints, change.excess v, transfer.by_node v, net-along rows path.hops (pos 1) x path.source path.target v path.leads apart change.before.same_length);
    nearer = nearer_after;
    rises = rises_after;
  }

  -- one unit less lies in excess
  left_after : left e ≡ suc (left next_excess)
  left_after =
      let first = sum_by-set part_above_0 e path.source given (pos 0) source_in in
      let second = sum_by-set part_above_0 (slice_set e path.source given) path.target taken (pos 0) (omega (arith, target_in, length-set e path.source given)) in
      let kept = ap part_above_0 target_kept in
      omega (
        arith,
        first,
        second,
        kept,
        part_above_0-one_less (number_at e path.source) given refl in_excess,
        part_above_0-none (number_at e path.target) (omega (arith, ints, in_deficit)),
        part_above_0-none taken (omega (arith, ints, in_deficit)),
      )

-- ---- all units

-- no more lies in excess after a change than before
left_not_more : {nodes : ℕ} {rows : List ArcRow} {x e y f : List ℤ} {ranks : List ℕ} → IsAcyclicChange nodes rows x e y f ranks → left f ≤ left e
left_not_more {nodes} {rows} {x} {e} {y} {f} {ranks} change =
    left-mono e f (change.after_sized ∙ sym change.excess_sized) (λ v. part_above_0-mono (number_at f v) (number_at e v) (λ some. not_above v some (change.nearer v)))
  where
    not_above : (v : ℕ) → pos 0 <ℤ number_at f v → IsNearer (number_at e v) (number_at f v) → number_at f v ≤ℤ number_at e v
    not_above v some (inl down) = down.1
    not_above v some (inr up) = absurd (omega (arith, ints, some, up.1))

-- a flow that is not changed leaves the same excess
excess_kept : {nodes : ℕ} {rows : List ArcRow} {x e y f : List ℤ} {ranks : List ℕ} → IsAcyclicChange nodes rows x e y f ranks → x ≡ y → e ≡ f
excess_kept {nodes} {rows} {x} {e} {y} {f} {ranks} change same =
    same_lists e f (change.excess_sized ∙ sym change.after_sized) (λ v. (let still : net rows x v ≡ net rows y v = ap (λ (z : List ℤ). net rows z v) same in omega (arith, ints, change.excess v, still)))

-- where nothing changes, nothing is pushed
unchanged : {nodes : ℕ} {rows : List ArcRow} {x e y f : List ℤ} {ranks : List ℕ} → IsAcyclicChange nodes rows x e y f ranks → x ≡ y → (n : ℕ) → n + left f ≡ left e → ArePushes rows n x e y f
unchanged {nodes} {rows} {x} {e} {y} {f} {ranks} change same n count =
    let kept = excess_kept change same in
    let equal = ap left kept in
    let none : 0 ≡ n = omega (arith, equal, count) in
    subst (λ (z : List ℤ). ArePushes rows n x e z f) same (subst (λ (g : List ℤ). ArePushes rows n x e x g) kept (subst (λ (k : ℕ). ArePushes rows k x e x e) none (ArePushes-none rows x e)))

-- what is changed lies on a path of changes
path_or_none : (nodes : ℕ) (rows : List ArcRow) (x e y f : List ℤ) (ranks : List ℕ) → IsAcyclicChange nodes rows x e y f ranks → (x ≡ y) ⊎ IsWantedPath nodes rows x e y f
path_or_none nodes rows x e y f ranks change = elim (same_or_differ x y (change.before.same_length ∙ sym change.after.same_length)) [
  | inl same ↦ inl same
  | inr at ↦ inr (wanted_path nodes rows x e y f ranks change at.place (omega (arith, at.in_list, change.before.same_length)) at.differs)
]

-- a change that turns in no circle is as many pushes as units are moved
pub pushes_of_change : (nodes : ℕ) (rows : List ArcRow) (x e y f : List ℤ) (ranks : List ℕ) → IsAcyclicChange nodes rows x e y f ranks → (n : ℕ) → n + left f ≡ left e → ArePushes rows n x e y f
pushes_of_change nodes rows x e y f ranks change zero count = elim (path_or_none nodes rows x e y f ranks change) [
  | inl same ↦ unchanged change same 0 count
  | inr path ↦ absurd (omega (arith, count, left_after change path, left_not_more (change_after change path)))
]
pushes_of_change nodes rows x e y f ranks change (suc n) count = elim (path_or_none nodes rows x e y f ranks change) [
  | inl same ↦ unchanged change same (suc n) count
  | inr path ↦ (let rest = pushes_of_change nodes rows (next_flow change path) (next_excess change path) y f ranks (change_after change path) n (omega (arith, count, left_after change path)) in
      let more : 1 + n ≡ suc n = omega arith in
      subst (λ (k : ℕ). ArePushes rows k x e y f) more (ArePushes-more (one_unit change path) rest))
]
