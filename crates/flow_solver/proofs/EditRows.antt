-- Edits that change or add one arc.
use Rattle.std.proofs.Common.{Bool, ◌≡◌, ℕ, zero, suc, ◌+◌, ◌-◌, ◌≤◌, ℤ, pos, ◌-ℤ◌, ◌<ℤ◌, ◌≤ℤ◌, [], ◌∷◌, ◌++◌, List, length, refl, sym, ap, subst, ◌∙◌, arith, slice_set, slice_index_or, unsigned_abs, Some, Result, Ok, Err, IsOk}
use native.Mathlib.Numerals.{unary_clauses}
use Rattle.std.proofs.lemmas.Int.{ints, by_lt_z}
use Rattle.std.proofs.lemmas.Option.{slice_get_within, slice_get-get_or, get_or_from_slice_get}
use Rattle.std.proofs.lemmas.List.{get_or-set_same, length-set, length-append, get_or_push}
use Rattle.std.proofs.lemmas.Slice.Zip.{AllZip-long}
use Rattle.dimacs_text.specs.declared.command.Edit.{Edit}
use Rattle.dimacs_text.specs.declared.command.Edit.TheVariants.{Cap, Low, Cost, Supply, Add, Close}
use Rattle.dimacs_text.specs.declared.problem.ArcRow.{ArcRow}
use Rattle.network.specs.Edited.{arc_of, edited, units, with_arc, with_last}
use Rattle.network.specs.Flow.{IsCertifiedFlow, IsWithinBounds, FollowsSign, reduced_cost}
use Rattle.network.specs.Instance.{Instance, IsLawful, arc_at, reduced}
use Rattle.network.proofs.EditedLemmas.{IsRowMade, Makes, edited_makes}
use Rattle.network.proofs.Places.{zip_at}
use Rattle.residual_graph.specs.Residual.{IsWithinRow, number_at}
use Rattle.residual_graph.proofs.GraphLemmas.{with_row}
use Rattle.residual_graph.proofs.Pseudoflows.{bounds_at}
use Rattle.flow_solver.specs.Part.{OfArc, place_of_edit}
use Rattle.flow_solver.specs.TablesView.{flow_index}
use Rattle.flow_solver.specs.Edit.{IsNearest, IsRowEdit, IsSupplyEdit, IsAltered, IsOfArc, GoesToNearest, IsAddEdit, IsMade, row_after_edit}
use Rattle.flow_solver.proofs.ChangeLemmas.{place_in, row_is, supplied, excess_changed, excess_more, excess_supplied}

-- ---- what an accepted edit leads to

accepted : (r : Result Instance ℕ) → IsOk r → (J : Instance) × (r ≡ Ok J)
accepted (Ok after) ok = (after, refl)
accepted (Err n) ok = cc

edited_is : (I after : Instance) (edit : Edit) → ((J : Instance) → Makes edit I J → J ≡ after) → IsOk (edited I edit) → edited I edit ≡ Ok after
edited_is I after edit is ok = (let J = accepted (edited I edit) ok in J.1 ∙ ap Ok (is J.0 (edited_makes I edit J.0 J.1).1))

row_changed : (I J : Instance) (k : ℕ) (met : ArcRow → Bool) (f : ArcRow → ArcRow) (old : ArcRow) → arc_at I.arcs k ≡ Some old → IsRowMade k met f I J → J ≡ with_arc I k (f old)
row_changed I J k met f old is made = (let same : made.old ≡ old = cc (is, made.at) in made.made ∙ ap (λ (a : ArcRow). with_arc I k (f a)) same)

arc_changed : (I : Instance) (edit : Edit) (old : ArcRow) → IsOfArc edit → arc_at I.arcs (arc_of edit) ≡ Some old → (J : Instance) → Makes edit I J → J ≡ with_arc I (arc_of edit) (row_after_edit edit old)
arc_changed I (Cap k x) old of is J made = row_changed I J k _ _ old is made.1
arc_changed I (Low k x) old of is J made = row_changed I J k _ _ old is made.1
arc_changed I (Cost k x) old of is J made = row_changed I J k _ _ old is made.1
arc_changed I (Close k) old of is J made = row_changed I J k _ _ old is made
arc_changed I _ old of is J made = absurd of

abbrev new_row : ℕ → ℕ → ℤ → ℤ → ℤ → ArcRow
new_row tail head low cap cost = record { tail = tail; head = head; low = low; cap = cap; cost = cost }

-- ---- how far the flow of the arc moves

bound_moved : (a b : ArcRow) (r x z : ℤ) → IsWithinRow a x → (pos 0 <ℤ r → x ≡ a.low) → (r <ℤ pos 0 → x ≡ a.cap) → IsNearest b r x z → unsigned_abs (z -ℤ x) ≤ unsigned_abs (b.low -ℤ a.low) + unsigned_abs (b.cap -ℤ a.cap)
bound_moved a b r x z bounds low cap near =
    by_lt_z (pos 0) r (λ dear. omega (arith, ints, low dear, near.dear dear)) (λ le.
    by_lt_z r (pos 0) (λ cheap. omega (arith, ints, cap cheap, near.cheap cheap)) (λ ge. (let even : r ≡ pos 0 = omega (arith, ints) in
    by_lt_z x b.low (λ below. omega (arith, ints, near.raised even below)) (λ above.
    by_lt_z b.cap x (λ beyond. omega (arith, ints, near.cut_off even beyond)) (λ within.
    omega (arith, ints, near.kept even (record { low_kept = above; cap_kept = within })))))))

moved_by : (I : Instance) (edit : Edit) (old : ArcRow) (q : ℕ → ℤ) (x z : ℤ) → IsOfArc edit → arc_at I.arcs (arc_of edit) ≡ Some old → pos 0 ≤ℤ old.low → IsWithinRow old x → FollowsSign q old x
    → IsNearest (row_after_edit edit old) (reduced_cost q (row_after_edit edit old)) x z → unsigned_abs (z -ℤ x) ≤ units I edit
moved_by I (Cap k c) old q x z of is low bounds sign near = rw is (omega (arith, ints, bound_moved old _ _ x z bounds sign.dear sign.cheap near))
moved_by I (Low k c) old q x z of is low bounds sign near = rw is (omega (arith, ints, bound_moved old _ _ x z bounds sign.dear sign.cheap near))
moved_by I (Cost k c) old q x z of is low bounds sign near = rw is (omega (arith, ints, near.within.low_kept, near.within.cap_kept))
moved_by I (Close k) old q x z of is low bounds sign near = rw is (omega (arith, ints, near.within.low_kept, near.within.cap_kept))
moved_by I _ old q x z of is low bounds sign near = absurd of

same_ends : (edit : Edit) (old : ArcRow) → ((row_after_edit edit old).tail ≡ old.tail) × ((row_after_edit edit old).head ≡ old.head)
same_ends (Cap k c) old = (refl, refl)
same_ends _ old = (refl, refl)

-- ---- the edits

pub number_in : (arcs : List ArcRow) (k : ℕ) (row : ArcRow) → arc_at arcs k ≡ Some row → (1 ≤ k) × (k ≤ length arcs)
number_in arcs zero row is = cc
number_in arcs (suc k) row is = (omega arith, omega (arith, slice_get_within arcs k row is))

pub row_there : (arcs : List ArcRow) (k : ℕ) (row d : ArcRow) → arc_at arcs k ≡ Some row → slice_index_or arcs (k - 1) d ≡ row
row_there arcs zero row d is = cc
row_there arcs (suc k) row d is = simp unary_clauses (get_or_from_slice_get arcs k row d is)

set_there : (arcs : List ArcRow) (k : ℕ) (row : ArcRow) → (1 ≤ k) × (k ≤ length arcs) → arc_at (slice_set arcs (k - 1) row) k ≡ Some row
set_there arcs zero row at = absurd (omega (arith, at.0))
set_there arcs (suc i) row at = simp unary_clauses (slice_get-get_or (slice_set arcs i row) i row (omega (arith, at.1, length-set arcs i row)) ∙ ap Some (get_or-set_same arcs i row row (omega (arith, at.1))))

-- what an edit leads to is lawful, as the law `edits_keep_lawful` of `network` has it
abbrev pub KeepsLawful : Instance → Edit → Type 0
KeepsLawful I edit = (after : Instance) → IsLawful I → edited I edit ≡ Ok after → IsLawful after

altered_by : (J : Instance) (edit : Edit) (q : ℕ → ℤ) (x start : List ℤ) → IsOfArc edit → GoesToNearest J (arc_of edit) q x start → IsAltered J edit q x start
altered_by J (Supply v value) q x start of goes = absurd of
altered_by J (Add t h l c k) q x start of goes = absurd of
altered_by J _ q x start of goes = goes

place_of_arc : (edit : Edit) → IsOfArc edit → place_of_edit edit ≡ OfArc (arc_of edit)
place_of_arc (Supply v value) of = absurd of
place_of_arc (Add tail head low cap cost) of = absurd of
place_of_arc _ of = refl

pub row_edit : (I : Instance) (edit : Edit) (old : ArcRow) → KeepsLawful I edit → IsLawful I → IsOk (edited I edit) → IsOfArc edit → arc_at I.arcs (arc_of edit) ≡ Some old → IsRowEdit I edit (arc_of edit) (row_after_edit edit old)
row_edit I edit old keeps lawful ok of is =
    let k = arc_of edit in
    let row = row_after_edit edit old in
    let there = row_there I.arcs k old row is in
    let at = number_in I.arcs k old is in
    let after = edited_is I (with_arc I k row) edit (arc_changed I edit old of is) ok in
    let lawful_after = keeps (with_arc I k row) lawful after in
    let low = rw (row_there I.arcs k old old is) at ((lawful.arcs (k - 1) old (omega (arith, at.0, at.1))).0.low) in
    let both = rw (get_or-set_same I.arcs (k - 1) row row (omega (arith, at.0, at.1))) at (lawful_after.arcs (k - 1) row (omega (arith, at.0, at.1, length-set I.arcs (k - 1) row))) in
    record {
      place = place_of_arc edit of;
      arc = at;
      tail = (same_ends edit old).0 ∙ ap (λ (a : ArcRow). a.tail) (sym there);
      head = (same_ends edit old).1 ∙ ap (λ (a : ArcRow). a.head) (sym there);
      limits = both.0;
      fits = both.1;
      after = after;
      altered = λ J q x start goes. altered_by J edit q x start of goes;
      moved = λ q x z bounds sign near. moved_by I edit old q x z of is low (rw there at bounds) (rw there at sign) near;
    }

pub add_edit : (I : Instance) (t h : ℕ) (l c k : ℤ) → KeepsLawful I (Add t h l c k) → IsLawful I → IsOk (edited I (Add t h l c k)) → IsAddEdit I (Add t h l c k) (record { tail = t; head = h; low = l; cap = c; cost = k })
add_edit I t h l c k keeps lawful ok =
    let row = new_row t h l c k in
    let after = edited_is I (with_last I row) (Add t h l c k) (λ J made. made.made) ok in
    let lawful_after = keeps (with_last I row) lawful after in
    let more = length-append I.arcs (row ∷ []) in
    let both = rw (get_or_push I.arcs row row (length I.arcs) refl) at (lawful_after.arcs (length I.arcs) row (omega (arith, more))) in
    record { is = refl; room = omega (arith, more, lawful_after.count); limits = both.0; fits = both.1; after = after }

-- ---- edits that were made

pub row_made : (I : Instance) (edit : Edit) (k : ℕ) (row : ArcRow) (q : ℕ → ℤ) (x : List ℤ) (z : ℤ) → IsCertifiedFlow (reduced I) x q → IsRowEdit I edit k row
    → IsNearest row (reduced_cost q row) (number_at x (flow_index I.demand k)) z → IsMade I (with_row I (k - 1) row) edit q x (slice_set x (flow_index I.demand k) z)
row_made I edit k row q x z certified change near =
    let place = flow_index I.demand k in
    let at = change.arc in
    let there = row_is I k row at in
    let bounds = subst (λ (a : ArcRow). IsWithinRow a (number_at x place)) there (bounds_at (reduced I).arcs x certified.bounds place (place_in I k at)) in
    let sign = subst (λ (a : ArcRow). FollowsSign q a (number_at x place)) there (zip_at (FollowsSign q) _ (pos 0) (reduced I).arcs x certified.signs place (place_in I k at)) in
    let moved = change.moved q (number_at x place) z bounds sign near in
    let more = excess_changed I x k row z change.limits at change.tail change.head (AllZip-long IsWithinBounds (reduced I).arcs x certified.bounds) in
    record {
      after = change.after;
      altered = change.altered (with_row I (k - 1) row) q x (slice_set x place z) (record { row = row; there = set_there I.arcs k row at; flow = z; nearest = near; start_is = refl });
      grown = omega (arith, ints, more, moved);
    }

pub add_made : (I : Instance) (edit : Edit) (row : ArcRow) (q : ℕ → ℤ) (x : List ℤ) (z : ℤ) → IsCertifiedFlow (reduced I) x q → IsAddEdit I edit row → IsNearest row (reduced_cost q row) (pos 0) z → IsMade I (with_last I row) edit q x (x ++ z ∷ [])
add_made I edit row q x z certified change near =
    let more = excess_more I x row z change.limits (AllZip-long IsWithinBounds (reduced I).arcs x certified.bounds) in
    subst (λ (e : Edit). IsMade I (with_last I row) e q x (x ++ z ∷ [])) (sym change.is)
    (record {
      after = subst (λ (e : Edit). edited I e ≡ Ok (with_last I row)) change.is change.after;
      altered = record { flow = z; nearest = near; start_is = refl };
      grown = omega (arith, ints, more, near.within.low_kept, near.within.cap_kept, change.limits.low);
    })

pub supply_made : (I : Instance) (edit : Edit) (v : ℕ) (s : ℤ) (q : ℕ → ℤ) (x : List ℤ) → IsLawful I → IsSupplyEdit I edit v s → IsMade I (supplied I v s) edit q x x
supply_made I edit v s q x lawful change =
    let more = excess_supplied I v s x lawful change.kind change.node in
    subst (λ (e : Edit). IsMade I (supplied I v s) e q x x) (sym change.is)
    (record {
      after = subst (λ (e : Edit). edited I e ≡ Ok (supplied I v s)) change.is change.after;
      altered = refl;
      grown = more;
    })
