-- A flow that is changed arc by arc, with the excess at the ends of each arc.
use Rattle.std.proofs.Common.{◌≡◌, ◌≢◌, ℕ, ◌+◌, ◌<◌, ◌≤◌, ℤ, pos, negsuc, neg_ℤ, ◌-ℤ◌, ◌+ℤ◌, List, Bool, true, false, length, refl, sym, ap, subst, ◌∙◌, inl, inr, arith, cond, eqb}
use Rattle.std.specs.Prelude.{◌⊎◌, ◌<ℤ◌, ◌≤ℤ◌, [], ◌∷◌, ◌++◌, Any, slice_index_or, slice_set, take}
use Rattle.std.specs.List.{AllPairs}
use Rattle.std.proofs.lemmas.Int.{ints}
use Rattle.std.proofs.lemmas.Bool.{cases_eq}
use Rattle.std.proofs.lemmas.List.{get_or_default, get_or-set_same, get_or-set_other, length-set, take_more, take_more_set}
use Rattle.std.proofs.lemmas.List.Sums.{sum_by-set}
use Rattle.dimacs_text.specs.declared.problem.ArcRow.{ArcRow}
use Rattle.residual_graph.specs.Residual.{IsPseudoflow, number_at, row_at}
use Rattle.flow_changes.specs.Changes.{AreNearer, IsExcessAfter, IsNearer, Rises, RisesAt}
use Rattle.tracked.specs.Marks.{in_set}
use Rattle.flow_changes.specs.Exchange.{AreChanged, IsLed, RisesBetween, flow_before}
use Rattle.proposals.specs.declared.wanted.FlowChange.{FlowChange}
use Rattle.tracked.specs.Journal.{IsJournal, IsSince}
use Rattle.flow_changes.specs.Push.{AreSmall, IsTransfer, only_at, left, part_above_0}
use Rattle.tracked.specs.declared.journal.Journal.{Journal}
use Rattle.flow_changes.proofs.PushLemmas.{only_at-sub, at_other, at_same, flow_in-set, flow_out-set}
use Rattle.tracked.specs.NodeLists.{node_at}
use Rattle.tracked.proofs.TouchedLemmas.{noted_or_not}
use Rattle.tracked.proofs.TrackedLemmas.{AreLeft, AreLeft-all, AreLeft-more, AreLeft-start}

-- a table in which d more stands at node u
put_more : (e : List ℤ) (u : ℕ) (a d : ℤ) → u < length e → a ≡ number_at e u +ℤ d → (v : ℕ) → number_at (slice_set e u a) v ≡ number_at e v +ℤ only_at u d v
put_more e u a d u_in is v = elim (cases_eq v u) [
  | inl same ↦ subst (λ (q : ℕ). number_at (slice_set e u a) q ≡ number_at e q +ℤ only_at u d q) (sym same) (get_or-set_same e u a (pos 0) u_in ∙ omega (arith, ints, is, at_same u d))
  | inr other ↦ get_or-set_other e u v a (pos 0) other ∙ omega (arith, ints, at_other u d v other)
]

only_at-neg : (u v : ℕ) (m : ℤ) → only_at u (neg_ℤ m) v ≡ neg_ℤ (only_at u m v)
only_at-neg u v m = by_test (eqb u v)
  where
    by_test : (t : Bool) → cond t (neg_ℤ m) (pos 0) ≡ neg_ℤ (cond t m (pos 0))
    by_test true = refl
    by_test false = refl

-- m is taken from node u and put at node w, which may be the same
pub transfer_put : (u w : ℕ) (m : ℤ) (e f g : List ℤ) (a b : ℤ) → u < length e → w < length e → f ≡ slice_set e u a → a ≡ number_at e u -ℤ m → g ≡ slice_set f w b → b ≡ number_at f w +ℤ m → IsTransfer u w m e g
transfer_put u w m e f g a b u_in w_in f_is a_is g_is b_is =
    let sized : length f ≡ length e = ap length f_is ∙ length-set e u a in
    record {
      same_length = ap length g_is ∙ length-set f w b ∙ sized;
      by_node = λ v. omega (
        arith,
        ints,
        only_at-neg u v m,
        ap (λ (h : List ℤ). number_at h v) f_is,
        put_more e u a (neg_ℤ m) u_in (omega (arith, ints, a_is)) v,
        ap (λ (h : List ℤ). number_at h v) g_is,
        put_more f w b m (omega (arith, sized, w_in)) b_is v,
      );
    }

pub after-same : (rows : List ArcRow) (x e : List ℤ) → IsExcessAfter rows x e x e
after-same rows x e = λ v. omega (arith, ints)

pub after-more : (rows : List ArcRow) (x e y f z g : List ℤ) → IsExcessAfter rows x e y f → IsExcessAfter rows y f z g → IsExcessAfter rows x e z g
after-more rows x e y f z g one two = λ v. omega (arith, ints, one v, two v)

-- arc k carries another flow, and what it carries more has gone from its tail to its head
pub after-set : (rows : List ArcRow) (x e f : List ℤ) (k : ℕ) (z : ℤ) → k < length rows → length x ≡ length rows → IsTransfer (row_at rows k).tail (row_at rows k).head (z -ℤ number_at x k) e f → IsExcessAfter rows x e (slice_set x k z) f
after-set rows x e f k z lt sized transfer = λ v. omega (arith, ints, transfer.by_node v, flow_out-set rows x k z v lt sized, flow_in-set rows x k z v lt sized, only_at-sub (row_at rows k).tail v z (number_at x k), only_at-sub (row_at rows k).head v z (number_at x k))

-- ---- changes that lead to nodes of higher rank

below_or_not : (z : ℤ) → (z <ℤ pos 0) ⊎ (pos 0 ≤ℤ z)
below_or_not (pos n) = inr (omega (arith, ints))
below_or_not (negsuc n) = inl (omega (arith, ints))

rises-same : (rows : List ArcRow) (x : List ℤ) (ranks : List ℕ) → Rises rows x x ranks
rises-same rows x ranks = λ k lt. record { more = λ less. absurd (omega (arith, ints, less)); less = λ less. absurd (omega (arith, ints, less)) }

-- what rises over two steps rises in one of them
rises-more : (rows : List ArcRow) (x y z : List ℤ) (ranks : List ℕ) → Rises rows x y ranks → Rises rows y z ranks → Rises rows x z ranks
rises-more rows x y z ranks one two = λ k lt. record {
  more = λ rises. elim (below_or_not (number_at x k -ℤ number_at y k)) [
    | inl first ↦ (one k lt).more (omega (arith, ints, first))
    | inr none ↦ (two k lt).more (omega (arith, ints, none, rises))
  ];
  less = λ falls. elim (below_or_not (number_at y k -ℤ number_at x k)) [
    | inl first ↦ (one k lt).less (omega (arith, ints, first))
    | inr none ↦ (two k lt).less (omega (arith, ints, none, falls))
  ];
}

-- arc k carries another flow
pub rises-set : (rows : List ArcRow) (x : List ℤ) (k : ℕ) (z : ℤ) (ranks : List ℕ) → k < length x → RisesBetween (row_at rows k) (number_at x k) z ranks → Rises rows x (slice_set x k z) ranks
rises-set rows x k z ranks k_in at = λ j lt. elim (cases_eq j k) [
  | inl same ↦ subst (RisesAt rows x (slice_set x k z) ranks) (sym same) (let here = subst (λ (y : ℤ). RisesBetween (row_at rows k) (number_at x k) y ranks) (sym (get_or-set_same x k z (pos 0) k_in)) at in record { more = here.more; less = here.less })
  | inr other ↦ (let kept = get_or-set_other x k j z (pos 0) other in record { more = λ less. absurd (omega (arith, ints, less, kept)); less = λ less. absurd (omega (arith, ints, less, kept)) })
]

-- what comes nearer to 0 stays within the limits
pub small_nearer : (e f : List ℤ) → AreSmall e → AreNearer e f → AreSmall f
small_nearer e f small nearer = record {
  low = λ v. elim (nearer v) [
    | inl above ↦ omega (arith, ints, above.0)
    | inr below ↦ omega (arith, ints, below.0, small.low v)
  ];
  high = λ v. elim (nearer v) [
    | inl above ↦ omega (arith, ints, above.1, small.high v)
    | inr below ↦ omega (arith, ints, below.1)
  ];
}

-- ---- tables that are written with journals

pub led_same : (j : Journal) (xs : List ℤ) → IsJournal j → IsLed j j xs xs
led_same j xs is = record { journal = is; room = refl; same_length = refl; since = λ zs since. since }

pub led_on : {i j k : Journal} → {xs ys zs : List ℤ} → IsLed i j xs ys → IsLed j k ys zs → IsLed i k xs zs
led_on one two = record {
  journal = two.journal;
  room = two.room ∙ one.room;
  same_length = two.same_length ∙ one.same_length;
  since = λ ws is. two.since ws (one.since ws is);
}

-- ---- changes in turn

pub changed-same : (rows : List ArcRow) (ranks : List ℕ) (x e : List ℤ) → IsPseudoflow (length e) rows x → AreChanged rows ranks x e x e
changed-same rows ranks x e flow = record { flow = flow; excess = after-same rows x e; rises = rises-same rows x ranks }

pub changed-more : (rows : List ArcRow) (ranks : List ℕ) (x e y f z g : List ℤ) → length f ≡ length e → AreChanged rows ranks x e y f → AreChanged rows ranks y f z g → AreChanged rows ranks x e z g
changed-more rows ranks x e y f z g sized first rest = record {
  flow = subst (λ (n : ℕ). IsPseudoflow n rows z) sized rest.flow;
  excess = after-more rows x e y f z g first.excess rest.excess;
  rises = rises-more rows x y z ranks first.rises rest.rises;
}

-- the last change is taken back first
flow_before-last : (changes : List FlowChange) (c : FlowChange) (y : List ℤ) → flow_before (changes ++ c ∷ []) y ≡ flow_before changes (slice_set y c.arc c.flow)
flow_before-last [] c y = refl
flow_before-last (d ∷ changes) c y = ap (λ (x : List ℤ). slice_set x d.arc d.flow) (flow_before-last changes c y)

-- with one change less
pub flow_before-less : (changes : List FlowChange) (j : ℕ) (c : FlowChange) (y : List ℤ) → j < length changes → flow_before (take (j + 1) changes) y ≡ flow_before (take j changes) (slice_set y (slice_index_or changes j c).arc (slice_index_or changes j c).flow)
flow_before-less changes j c y lt = ap (λ (cs : List FlowChange). flow_before cs y) (take_more changes j c lt) ∙ flow_before-last (take j changes) (slice_index_or changes j c) y

-- with one change more, which is kept in its place
pub flow_before-more : (changes : List FlowChange) (j : ℕ) (c : FlowChange) (y : List ℤ) → j < length changes → flow_before (take (j + 1) (slice_set changes j c)) y ≡ flow_before (take j changes) (slice_set y c.arc c.flow)
flow_before-more changes j c y lt = ap (λ (cs : List FlowChange). flow_before cs y) (take_more_set changes j c lt) ∙ flow_before-last (take j changes) c y

-- ---- what the nodes that a journal notes gave

nearer_same : (z : ℤ) → IsNearer z z
nearer_same (pos n) = inl (omega (arith, ints), omega (arith, ints))
nearer_same (negsuc n) = inr (omega (arith, ints), omega (arith, ints))

-- a table holds at the first j of these nodes what stands there now, and elsewhere what stood there before: n units are given
pub record AreGiven (nodes : List ℕ) (j : ℕ) (before now : List ℤ) (n : ℕ) : Type 0 where
  pub table : List ℤ
  pub rest : AreLeft nodes j table now
  pub not_yet : (i : ℕ) → j ≤ i → i < length nodes → number_at table (node_at nodes i) ≡ number_at before (node_at nodes i)
  pub nearer : AreNearer before table
  pub units : n + left table ≡ left before

pub AreGiven-none : (j : Journal) (before now : List ℤ) (nodes : List ℕ) → ((k : ℕ) → in_set j.written k ≡ true → Any (λ p. p ≡ k) nodes) → IsSince j before now → AreGiven nodes 0 before now 0
AreGiven-none j before now nodes listed is = record {
  table = before;
  rest = AreLeft-start nodes before now is.same_length (λ k lt. elim (noted_or_not j.written k) [
    | inl noted ↦ inl (subst (λ (q : ℕ). Any (λ p. p ≡ q) nodes) (omega arith) (listed k noted))
    | inr out ↦ inr (is.elsewhere k out)
  ]);
  not_yet = λ i le lt. refl;
  nearer = λ v. nearer_same (number_at before v);
  units = omega arith;
}

pub AreGiven-more : (nodes : List ℕ) (j : ℕ) (before now : List ℤ) (n m : ℕ) → AllPairs ◌≢◌ nodes → j < length nodes → node_at nodes j < length now → IsNearer (number_at before (node_at nodes j)) (number_at now (node_at nodes j))
    → m + part_above_0 (number_at now (node_at nodes j)) ≡ part_above_0 (number_at before (node_at nodes j)) → AreGiven nodes j before now n → AreGiven nodes (j + 1) before now (n + m)
AreGiven-more nodes j before now n m apart j_in there nearer gave are =
    let p = node_at nodes j in
    let z = number_at now p in
    let p_in : p < length are.table = omega (arith, there, are.rest.same_length) in
    let kept = ap part_above_0 (are.not_yet j (omega arith) j_in) in
    let put = sum_by-set part_above_0 are.table p z (pos 0) p_in in
    record {
      table = slice_set are.table p z;
      rest = AreLeft-more nodes j are.table now z are.rest p_in (get_or_default now p (pos 0) z there);
      not_yet = λ i le lt. get_or-set_other are.table p (node_at nodes i) z (pos 0) (λ same. apart j i 0 (omega (arith, le)) lt (sym same)) ∙ are.not_yet i (omega (arith, le)) lt;
      nearer = λ v. (elim (cases_eq v p) [
        | inl same ↦ subst (λ (q : ℕ). IsNearer (number_at before q) (number_at (slice_set are.table p z) q)) (sym same) (subst (IsNearer (number_at before p)) (sym (get_or-set_same are.table p z (pos 0) p_in)) nearer)
        | inr ne ↦ subst (IsNearer (number_at before v)) (sym (get_or-set_other are.table p v z (pos 0) ne)) (are.nearer v)
      ]);
      units = omega (arith, kept, put, gave, are.units);
    }

pub AreGiven-all : (nodes : List ℕ) (j : ℕ) (before now : List ℤ) (n : ℕ) → AreGiven nodes j before now n → length nodes ≤ j → AreNearer before now × (n + left now ≡ left before)
AreGiven-all nodes j before now n are all =
    subst (λ (table : List ℤ). AreNearer before table × (n + left table ≡ left before)) (AreLeft-all nodes j are.table now are.rest all) (are.nearer, are.units)
