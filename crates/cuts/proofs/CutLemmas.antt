-- What lies in excess and in deficit, sets that part the two, the marked nodes by which a set grows, and those of a cut.
use Rattle.std.proofs.Common.{◌≡◌, ℕ, zero, suc, ◌<◌, ◌≤◌, ℤ, pos, negsuc, neg_ℤ, ◌≤ℤ◌, List, [], ◌∷◌, length, map, replicate, refl, sym, ap, subst, ◌∙◌, inl, inr, arith, Bool, true, false, cond, not, None}
use Rattle.std.specs.Prelude.{◌<ℤ◌, Any, slice_set}
use Rattle.std.proofs.lemmas.Int.{ints, by_lt_z}
use Rattle.std.proofs.lemmas.Bool.{cases_eq, cases_lt, false≢true, true≢false, false_from_ne_true}
use Rattle.std.proofs.lemmas.List.Sums.{sum_by-cons}
use Rattle.std.specs.List.{count_by}
use Rattle.std.proofs.lemmas.List.{ext_get_or, length-map, length-set, get_or-set_other, get_or-set_same, get_or-replicate, get_or_past}
use Rattle.dimacs_text.specs.declared.problem.ArcRow.{ArcRow}
use Rattle.residual_graph.specs.declared.residual.Way.{Way}
use Rattle.residual_graph.specs.declared.residual.Way.TheVariants.{Forward, Backward}
use Rattle.residual_graph.specs.Residual.{IsPseudoflow, IsRow, number_at, row_at, end_of, end_at, IsResidual}
use Rattle.residual_graph.specs.declared.graph.Graph.{Graph}
use Rattle.residual_graph.specs.Walk.{HasCome}
use Rattle.residual_graph.proofs.RowLemmas.{end_of-in, start_of-in}
use Rattle.residual_graph.specs.declared.side.Side.{Side}
use Rattle.residual_graph.specs.declared.side.Side.TheVariants.{Ahead, Behind}
use Rattle.flow_changes.specs.Push.{part_above_0, left}
use Rattle.flow_changes.proofs.PushesLemmas.{left-neg, number_at-neg}
use Rattle.cuts.specs.Cut.{amount, near_at, near_of, far_of, AreFarIn, IsClosedAlong, LeadsOut, way_from, IsParted, IsGrown, AreMarkedListed, AreNodesIn, AreTaken, lack}
use Rattle.tracked.specs.Marks.{in_set}
use Rattle.residual_graph.specs.Side.{IsRoot}
use Rattle.tracked.specs.Touched.{NameChanges}
use Rattle.tracked.proofs.TouchedLemmas.{noted_or_not, still_noted}

-- ---- what lies in excess and in deficit

no_part : (z : ℤ) → (pos 0 <ℤ z → ⊥) → part_above_0 z ≡ 0
no_part (pos zero) h = refl
no_part (pos (suc n)) h = absurd (h (omega (arith, ints)))
no_part (negsuc n) h = refl

-- where nothing lies in excess, no number is above 0
pub none_above : (e : List ℤ) → left e ≡ 0 → (v : ℕ) → number_at e v ≤ℤ pos 0
none_above [] h v = omega (arith, ints)
none_above (pos n ∷ e) h zero = omega (arith, ints, sum_by-cons part_above_0 (pos n) e)
none_above (negsuc n ∷ e) h zero = omega (arith, ints)
none_above (z ∷ e) h (suc v) = none_above e (omega (arith, sum_by-cons part_above_0 z e)) v

left-none : (e : List ℤ) → ((v : ℕ) → v < length e → number_at e v ≤ℤ pos 0) → left e ≡ 0
left-none [] h = refl
left-none (z ∷ e) h = omega (arith, sum_by-cons part_above_0 z e, no_part z (λ high. omega (arith, ints, high, h 0 (omega arith))), left-none e (λ v lt. h (suc v) (omega arith)))

pub lack-none : (e : List ℤ) → lack e ≡ 0 → (v : ℕ) → pos 0 ≤ℤ number_at e v
lack-none e h v = omega (arith, ints, none_above (map neg_ℤ e) (left-neg e ∙ h) v, number_at-neg e v)

pub amount-none : (side : Side) (e : List ℤ) → ((v : ℕ) → v < length e → IsRoot side (number_at e v) → ⊥) → amount side e ≡ 0
amount-none Ahead e none = left-none e (λ v lt. by_lt_z (pos 0) (number_at e v) (λ high. absurd (none v lt high)) (λ le. omega (arith, ints, le)))
amount-none Behind e none =
    sym (left-neg e) ∙ left-none (map neg_ℤ e) (λ v lt. by_lt_z (number_at e v) (pos 0) (λ low. absurd (none v (omega (arith, lt, length-map e neg_ℤ)) low)) (λ le. omega (arith, ints, le, number_at-neg e v)))

-- ---- no node in excess reaches a node in deficit

parted_no_excess : (arcs : List ArcRow) (x e : List ℤ) → left e ≡ 0 → IsParted arcs x e
parted_no_excess arcs x e none = record {
  set = [];
  closed = λ k way residual start. absurd (false≢true start);
  holds = λ v high. absurd (omega (arith, ints, high, none_above e none v));
  no_deficit = λ v h. absurd (false≢true h);
}

in_all : (n v : ℕ) → v < n → in_set (replicate n true) v ≡ true
in_all n v lt = get_or-replicate n v true false lt

end_in : (n : ℕ) (a : ArcRow) (way : Way) → IsRow n a → end_of a way < n
end_in n a Forward row = row.head_in
end_in n a Backward row = row.tail_in

parted_no_deficit : (nodes : ℕ) (arcs : List ArcRow) (x e : List ℤ) → IsPseudoflow nodes arcs x → length e ≡ nodes → lack e ≡ 0 → IsParted arcs x e
parted_no_deficit nodes arcs x e flow sized no_lack = record {
  set = replicate nodes true;
  closed = λ k way residual start. in_all nodes (end_at arcs k way) (end_in nodes (row_at arcs k) way (flow.rows k residual.is_arc));
  holds = λ v high. in_all nodes v (node v high);
  no_deficit = λ v h. lack-none e no_lack v;
}
  where
    node : (v : ℕ) → pos 0 <ℤ number_at e v → v < nodes
    node v high = elim (cases_lt v nodes) [
      | inl lt ↦ lt
      | inr past ↦ (let none : number_at e v ≡ pos 0 = get_or_past e v (pos 0) (omega (arith, past, sized)) in absurd (omega (arith, ints, high, none)))
    ]

pub parted_unless_both : (arcs : List ArcRow) (x e : List ℤ) → IsPseudoflow (length e) arcs x → ((0 < left e) × (0 < lack e) → ⊥) → IsParted arcs x e
parted_unless_both arcs x e flow not_both = elim (cases_eq (left e) 0) [
  | inl none ↦ parted_no_excess arcs x e none
  | inr some ↦ elim (cases_eq (lack e) 0) [
    | inl no_lack ↦ parted_no_deficit (length e) arcs x e flow refl no_lack
    | inr lacking ↦ absurd (not_both (omega (arith, some), omega (arith, lacking)))
  ]
]

pub marked_in : (set : List Bool) (v : ℕ) → in_set set v ≡ true → v < length set
marked_in set v h = elim (cases_lt v (length set)) [
  | inl below ↦ below
  | inr past ↦ absurd (false≢true (sym (get_or_past set v false past) ∙ h))
]

-- ---- sets that grow

pub IsGrown-trans : {side : Side} {arcs : List ArcRow} {x : List ℤ} {old mid new : List Bool} → IsGrown side arcs x old mid → IsGrown side arcs x mid new → IsGrown side arcs x old new
IsGrown-trans one two = record {
  same_size = two.same_size ∙ one.same_size;
  kept = λ v h. two.kept v (one.kept v h);
  least = λ other closed holds. two.least other closed (one.least other closed holds);
}

far_of-in : (side : Side) (nodes : ℕ) (a : ArcRow) (way : Way) → IsRow nodes a → far_of side a way < nodes
far_of-in Ahead nodes a way row = end_of-in nodes a way row
far_of-in Behind nodes a way row = start_of-in nodes a way row

-- a walk that came to each arc at a node of the set, of which none leads out, came to each residual arc that leads on from there
pub far_all : (side : Side) (g : Graph) (x : List ℤ) (set : List Bool) (v : ℕ) → in_set set v ≡ true → HasCome g v None (IsClosedAlong side g.rows x set) → AreFarIn side g.rows x set v
far_all Ahead g x set v marked come k way near residual = come.passed k way residual.is_arc near tt way residual (ap (in_set set) near ∙ marked)
far_all Behind g x set v marked come k Forward near residual = come.passed k Backward residual.is_arc near tt Forward residual (ap (in_set set) near ∙ marked)
far_all Behind g x set v marked come k Backward near residual = come.passed k Forward residual.is_arc near tt Backward residual (ap (in_set set) near ∙ marked)

-- the end of an arc from which the way out goes, and the other one
near_from : (side : Side) (a : ArcRow) (from_tail : Bool) → near_of side a (way_from side from_tail) ≡ cond from_tail a.tail a.head
near_from Ahead a true = refl
near_from Ahead a false = refl
near_from Behind a true = refl
near_from Behind a false = refl

far_from : (side : Side) (a : ArcRow) (from_tail : Bool) → far_of side a (way_from side from_tail) ≡ cond from_tail a.head a.tail
far_from Ahead a true = refl
far_from Ahead a false = refl
far_from Behind a true = refl
far_from Behind a false = refl

-- it leads out to the other end, where that is not in the set
pub out_along : (side : Side) (arcs : List ArcRow) (x : List ℤ) (set : List Bool) (k : ℕ) (from_tail : Bool) → IsPseudoflow (length set) arcs x → IsResidual arcs x k (way_from side from_tail)
    → in_set set (cond from_tail (row_at arcs k).tail (row_at arcs k).head) ≡ true → in_set set (cond from_tail (row_at arcs k).head (row_at arcs k).tail) ≡ false → LeadsOut side arcs x set (cond from_tail (row_at arcs k).head (row_at arcs k).tail)
out_along side arcs x set k from_tail flow residual near far = record {
  arc = record { arc = k; way = way_from side from_tail };
  residual = residual;
  near = ap (in_set set) (near_from side (row_at arcs k) from_tail) ∙ near;
  far = far_from side (row_at arcs k) from_tail;
  node = subst (λ (v : ℕ). v < length set) (far_from side (row_at arcs k) from_tail) (far_of-in side (length set) (row_at arcs k) (way_from side from_tail) (flow.rows k residual.is_arc));
  outside = far;
}

-- how much a node counts outside
abbrev outside : Bool → ℕ
outside = λ b. cond (not b) 1 0

-- a set that grows leaves no more outside, and fewer where some node came in
no_more_outside : (old new : List Bool) → length new ≡ length old → ((v : ℕ) → in_set old v ≡ true → in_set new v ≡ true) → count_by not new ≤ count_by not old
no_more_outside [] [] sized kept = omega arith
no_more_outside [] (d ∷ new) sized kept = absurd (omega arith)
no_more_outside (b ∷ old) [] sized kept = absurd (omega arith)
no_more_outside (true ∷ old) (false ∷ new) sized kept = absurd (false≢true (kept 0 refl))
no_more_outside (true ∷ old) (true ∷ new) sized kept =
    omega (arith, sum_by-cons outside true old, sum_by-cons outside true new, no_more_outside old new (omega arith) (λ v. kept (suc v)))
no_more_outside (false ∷ old) (true ∷ new) sized kept =
    omega (arith, sum_by-cons outside false old, sum_by-cons outside true new, no_more_outside old new (omega arith) (λ v. kept (suc v)))
no_more_outside (false ∷ old) (false ∷ new) sized kept =
    omega (arith, sum_by-cons outside false old, sum_by-cons outside false new, no_more_outside old new (omega arith) (λ v. kept (suc v)))

fewer_outside : (old new : List Bool) (u : ℕ) → length new ≡ length old → ((v : ℕ) → in_set old v ≡ true → in_set new v ≡ true) → in_set old u ≡ false → in_set new u ≡ true → count_by not new < count_by not old
fewer_outside [] [] u sized kept out come = absurd (false≢true come)
fewer_outside [] (d ∷ new) u sized kept out come = absurd (omega arith)
fewer_outside (b ∷ old) [] u sized kept out come = absurd (omega arith)
fewer_outside (true ∷ old) (d ∷ new) zero sized kept out come = absurd (true≢false out)
fewer_outside (false ∷ old) (false ∷ new) zero sized kept out come = absurd (false≢true come)
fewer_outside (false ∷ old) (true ∷ new) zero sized kept out come =
    omega (arith, sum_by-cons outside false old, sum_by-cons outside true new, no_more_outside old new (omega arith) (λ v. kept (suc v)))
fewer_outside (true ∷ old) (false ∷ new) (suc u) sized kept out come = absurd (false≢true (kept 0 refl))
fewer_outside (true ∷ old) (true ∷ new) (suc u) sized kept out come =
    omega (arith, sum_by-cons outside true old, sum_by-cons outside true new, fewer_outside old new u (omega arith) (λ v. kept (suc v)) out come)
fewer_outside (false ∷ old) (true ∷ new) (suc u) sized kept out come =
    omega (arith, sum_by-cons outside false old, sum_by-cons outside true new, fewer_outside old new u (omega arith) (λ v. kept (suc v)) out come)
fewer_outside (false ∷ old) (false ∷ new) (suc u) sized kept out come =
    omega (arith, sum_by-cons outside false old, sum_by-cons outside false new, fewer_outside old new u (omega arith) (λ v. kept (suc v)) out come)

-- the node comes in once more did, if it did not then
pub IsGrown-then : {side : Side} {arcs : List ArcRow} {x : List ℤ} {set mid : List Bool} {v : ℕ} → LeadsOut side arcs x set v → IsGrown side arcs x set mid → IsGrown side arcs x set (slice_set mid v true)
IsGrown-then {side = side} {arcs = arcs} {set = set} {mid = mid} {v = v} out grown = record {
  same_size = length-set mid v true ∙ grown.same_size;
  kept = λ w h. still_noted mid v w (omega (arith, out.node, grown.same_size)) (grown.kept w h);
  least = λ other closed holds w h. elim (cases_eq w v) [
    | inl same ↦ subst (λ (q : ℕ). in_set other q ≡ true) (out.far ∙ sym same) (closed out.arc.arc out.arc.way out.residual (holds (near_at side arcs out.arc.arc out.arc.way) out.near))
    | inr ne ↦ grown.least other closed holds w (sym (get_or-set_other mid v w true false ne) ∙ h)
  ];
}

pub fewer_then : {side : Side} {arcs : List ArcRow} {x : List ℤ} {set mid : List Bool} {v : ℕ} → LeadsOut side arcs x set v → IsGrown side arcs x set mid → count_by not (slice_set mid v true) < count_by not set
fewer_then {set = set} {mid = mid} {v = v} out grown =
    let all = IsGrown-then out grown in
    fewer_outside set (slice_set mid v true) v all.same_size all.kept out.outside (get_or-set_same mid v true false (omega (arith, out.node, grown.same_size)))

-- ---- marks of a cut whose nodes are listed

-- a mark is exchanged, and its node listed
pub exchanged_listed : (listed marks : List Bool) (v : ℕ) (value : Bool) → v < length marks → AreMarkedListed listed marks → AreMarkedListed (slice_set listed v true) (slice_set marks v value)
exchanged_listed listed marks v value lt are = record {
  one_a_node = length-set listed v true ∙ are.one_a_node ∙ sym (length-set marks v value);
  unmarked = λ u out. elim (cases_eq u v) [
    | inl same ↦ absurd (true≢false (sym (subst (λ (w : ℕ). in_set (slice_set listed v true) w ≡ true) (sym same) (get_or-set_same listed v true false (omega (arith, lt, are.one_a_node)))) ∙ out))
    | inr ne ↦ get_or-set_other marks v u value false ne ∙ are.unmarked u (sym (get_or-set_other listed v u true false ne) ∙ out)
  ];
}

-- all nodes are listed at which the marks that come back differ
pub back_listed : (listed listed' : List Bool) (places : List ℕ) (kept marks : List Bool) → AreMarkedListed listed marks → NameChanges 0 places kept marks → length kept ≡ length marks → length listed' ≡ length listed
    → ((v : ℕ) → in_set listed v ≡ true → in_set listed' v ≡ true) → AreNodesIn places listed' → AreMarkedListed listed' kept
back_listed listed listed' places kept marks are named as_many sized still noted = record {
  one_a_node = sized ∙ are.one_a_node ∙ sym as_many;
  unmarked = λ v out. elim (cases_lt v (length kept)) [
    | inr past ↦ get_or_past kept v false past
    | inl lt ↦ elim (named v lt) [
      | inl there ↦ absurd (true≢false (sym (noted v (subst (λ (q : ℕ). Any (λ p. p ≡ q) places) (omega arith) there) (omega (arith, lt, sized, are.one_a_node, as_many))) ∙ out))
      | inr agree ↦ sym (agree false) ∙ are.unmarked v (false_from_ne_true (in_set listed v) (λ h. true≢false (sym (still v h) ∙ out)))
    ]
  ];
}

-- marks that are taken at each node that was listed, and at each that is marked, are taken at all
pub taken_all : (listed before between after marks : List Bool) (places nodes : List ℕ) → AreMarkedListed listed before → length after ≡ length marks → ((v : ℕ) → in_set listed v ≡ true → Any (λ p. p ≡ v) places) → ((v : ℕ) → in_set marks v ≡ true → Any (λ p. p ≡ v) nodes)
    → AreTaken places before between marks → AreTaken nodes between after marks → after ≡ marks
taken_all listed before between after marks places nodes are sized named marked first second =
    ext_get_or false after marks sized (λ v lt. at v)
  where
    at : (v : ℕ) → in_set after v ≡ in_set marks v
    at v = elim (noted_or_not marks v) [
      | inl is ↦ second.taken v (marked v is)
      | inr out ↦ elim (noted_or_not listed v) [
        | inl was ↦ second.kept v (first.taken v (named v was))
        | inr free ↦ second.kept v (first.kept v (are.unmarked v free ∙ sym out))
      ]
    ]
