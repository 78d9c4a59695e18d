-- What edits that are made leave of an instance to the next edit: the arc with a number, and how many arcs there are.
use Rattle.std.proofs.Common.{◌≡◌, ◌≢◌, ℕ, zero, suc, ◌+◌, ◌-◌, ◌<◌, ◌≤◌, ◌==◌, ℤ, inl, inr, Bool, true, false, if◌then◌else◌, List, [], ◌∷◌, ◌++◌, length, length-set, set, get_or, slice_get, take, drop, Some, None, Result, Ok, Err, refl, sym, ap, ◌∙◌, arith}
use Rattle.std.specs.Result.{is_ok, IsOk}
use Rattle.std.proofs.lemmas.Bool.{false≢true, and_parts, ne_eqb}
use Rattle.std.proofs.lemmas.Bool.Decides.{eqb_tells}
use Rattle.std.proofs.lemmas.List.{length_push, get_or-set_same, take-append-drop, take_more}
use Rattle.std.proofs.lemmas.Option.{slice_get_within, slice_get-get_or}
use Rattle.dimacs_text.specs.declared.command.Edit.{Edit}
use Rattle.dimacs_text.specs.declared.command.Edit.TheVariants.{Cap, Low, Cost, Supply, Add, Close}
use Rattle.dimacs_text.specs.declared.problem.ArcRow.{ArcRow}
use Rattle.dimacs_text.specs.declared.problem.TheConstants.{NODE_LIMIT, ARC_LIMIT}
use Rattle.network.specs.declared.refusal.EditRefusal.{EditRefusal}
use Rattle.dimacs_lines.specs.Checks.{numbered}
use Rattle.network.specs.Refusal.{number_of}
use Rattle.network.specs.Edited.{EndsFit, SharesFrame, changed_if, count_after, edited, edited_all, is_across, is_node, outcome, row_after, tried}
use Rattle.network.specs.Instance.{Demand, Supplies, Instance, IsLawful, arc_at, kind_of, with_supply}
use Rattle.network.proofs.EndLinks.{slice_get-set_other}
use Rattle.network.proofs.EditedAll.{first_made, edited_one, edited_more, refused_more, edited_all-lawful}
use Rattle.network.proofs.EditedLemmas.{IsRowMade, Makes, edited_makes, node_from_test}

-- ---- the arcs with another row, and with one more

none_if : (found : Bool) (f : ArcRow → ArcRow) → changed_if found f None ≡ None
none_if true f = refl
none_if false f = refl

row_set : (arcs : List ArcRow) (j k : ℕ) (old : ArcRow) (f : ArcRow → ArcRow) → arc_at arcs j ≡ Some old
    → changed_if (j == k) f (arc_at arcs k) ≡ arc_at (set arcs (j - 1) (f old)) k
row_set arcs zero k old f at = absurd (cc at)
row_set arcs (suc j) zero old f at = none_if (suc j == zero) f
row_set arcs (suc j) (suc k) old f at =
    let index : suc j - 1 ≡ j = omega arith in
    rw index (elim (eqb_tells (suc j) (suc k)) [
      | inl e ↦ here e.0 (omega (arith, e.1))
      | inr e ↦ rw e.0 (sym (slice_get-set_other arcs j k (f old) (λ same. e.1 (ap suc (sym same)))))
    ])
  where
    here : (suc j == suc k) ≡ true → k ≡ j → changed_if (suc j == suc k) f (slice_get arcs k) ≡ slice_get (set arcs j (f old)) k
    here found same =
        let below : j < length arcs = slice_get_within arcs j old at in
        let long : length (set arcs j (f old)) ≡ length arcs = length-set arcs j (f old) in
        let new : slice_get (set arcs j (f old)) j ≡ Some (f old) = slice_get-get_or (set arcs j (f old)) j old (omega (arith, below, long)) ∙ ap Some (get_or-set_same arcs j (f old) old below) in
        rw (found, same, at) (sym new)

pushed_last : (arcs : List ArcRow) (row : ArcRow) → slice_get (arcs ++ row ∷ []) (length arcs) ≡ Some row
pushed_last [] row = refl
pushed_last (arc ∷ arcs) row = pushed_last arcs row

pushed_other : (arcs : List ArcRow) (k : ℕ) (row : ArcRow) → k ≢ length arcs → slice_get (arcs ++ row ∷ []) k ≡ slice_get arcs k
pushed_other [] zero row ne = absurd (ne refl)
pushed_other (arc ∷ arcs) (suc k) row ne = pushed_other arcs k row (λ e. ne (ap suc e))
pushed_other _ _ row ne = refl

row_pushed : (arcs : List ArcRow) (k : ℕ) (row : ArcRow) → (if length arcs + 1 == k then Some row else arc_at arcs k) ≡ arc_at (arcs ++ row ∷ []) k
row_pushed arcs zero row = rw (ne_eqb (length arcs + 1) 0 (λ e. omega (arith, e))) refl
row_pushed arcs (suc k) row = elim (eqb_tells (length arcs + 1) (suc k)) [
  | inl e ↦ (let same : k ≡ length arcs = omega (arith, e.1) in rw (e.0, same) (sym (pushed_last arcs row)))
  | inr e ↦ rw e.0 (sym (pushed_other arcs k row (λ same. e.1 (omega (arith, same)))))
]

-- ---- one edit that is made

pub record Follows (edit : Edit) (I J : Instance) : Type 0 where
  pub row : (k : ℕ) → row_after k (length I.arcs) (arc_at I.arcs k) edit ≡ arc_at J.arcs k
  pub arcs : count_after (length I.arcs) edit ≡ length J.arcs
  pub frame : SharesFrame I J

same_frame : (I : Instance) (arcs : List ArcRow) → SharesFrame I (record I { arcs = arcs })
same_frame I arcs = record { nodes = refl; room = refl; kind = refl; across = λ tail head. refl }

at_row : (I after : Instance) (j : ℕ) (met : ArcRow → Bool) (f : ArcRow → ArcRow) (edit : Edit) → ((k : ℕ) → row_after k (length I.arcs) (arc_at I.arcs k) edit ≡ changed_if (j == k) f (arc_at I.arcs k))
    → count_after (length I.arcs) edit ≡ length I.arcs → IsRowMade j met f I after → Follows edit I after
at_row I after j met f edit row count made = rw made.made record {
  row = λ k. row k ∙ row_set I.arcs j k made.old f made.at;
  arcs = count ∙ sym (length-set I.arcs (j - 1) (f made.old));
  frame = same_frame I (set I.arcs (j - 1) (f made.old));
}

across_supply : (D : Demand) (v : ℕ) (value : ℤ) → (kind_of (with_supply D v value) ≡ kind_of D) × ((tail head : ℕ) → is_across (with_supply D v value) tail head ≡ is_across D tail head)
across_supply (Supplies supplies) v value = (refl, λ tail head. refl)
across_supply _ v value = (refl, λ tail head. refl)

by_edit : (I : Instance) (edit : Edit) (after : Instance) → Makes edit I after → Follows edit I after
by_edit I (Cap j most) after made = at_row I after j _ _ (Cap j most) (λ k. refl) refl made.1
by_edit I (Low j low) after made = at_row I after j _ _ (Low j low) (λ k. refl) refl made.1
by_edit I (Cost j cost) after made = at_row I after j _ _ (Cost j cost) (λ k. refl) refl made.1
by_edit I (Supply v value) after (range, node, made) =
    let same = across_supply I.demand v value in
    rw made (record { row = λ k. refl; arcs = refl; frame = record { nodes = refl; room = refl; kind = same.0; across = same.1 } })
by_edit I (Add tail head low most cost) after made =
    let row : ArcRow = record { tail = tail; head = head; low = low; cap = most; cost = cost } in
    rw made.made (record { row = λ k. row_pushed I.arcs k row; arcs = (let l = length_push I.arcs row in omega arith); frame = same_frame I (I.arcs ++ row ∷ []) })
by_edit I (Close j) after made = at_row I after j _ _ (Close j) (λ k. refl) refl made

pub follows : (I : Instance) (edit : Edit) (after : Instance) → edited I edit ≡ Ok after → Follows edit I after
follows I edit after e = by_edit I edit after (edited_makes I edit after e).1

ends_by : (I : Instance) (edit : Edit) (after : Instance) → IsLawful I → Makes edit I after → EndsFit edit
ends_by I (Add tail head low most cost) after lawful made =
    let ends = and_parts (is_node I.nodes tail) (is_node I.nodes head) made.ends in
    let few : I.nodes ≤ NODE_LIMIT = lawful.nodes.1 in
    (omega (arith, few, (node_from_test I.nodes tail ends.0).1), omega (arith, few, (node_from_test I.nodes head ends.1).1))
ends_by I _ after lawful made = tt

pub ends_fit : (I : Instance) (edit : Edit) (after : Instance) → IsLawful I → edited I edit ≡ Ok after → EndsFit edit
ends_fit I edit after lawful e = ends_by I edit after lawful (edited_makes I edit after e).1

-- ---- edits that are made together

frame_more : (I J K : Instance) → SharesFrame I J → SharesFrame J K → SharesFrame I K
frame_more I J K first more = record {
  nodes = more.nodes ∙ first.nodes;
  room = more.room ∙ first.room;
  kind = more.kind ∙ first.kind;
  across = λ tail head. more.across tail head ∙ first.across tail head;
}

made_by : (r : Result Instance ℕ) → is_ok r ≡ true → (after : Instance) × (r ≡ Ok after)
made_by (Ok after) e = (after, refl)
made_by (Err number) e = absurd (false≢true e)

pub made_all : (I : Instance) (edits : List Edit) → IsOk (edited_all I edits) → (after : Instance) × (edited_all I edits ≡ Ok after)
made_all I edits ok = made_by (edited_all I edits) ok

pub frame_all : (I : Instance) (edits : List Edit) (after : Instance) → edited_all I edits ≡ Ok after → SharesFrame I after
unfolding edited_all
frame_all I [] after e = let same : I ≡ after = cc in rw (← same) (same_frame I I.arcs)
frame_all I (edit ∷ edits) after e =
    let first = first_made (edited I edit) (λ next. edited_all next edits) after e in
    frame_more I first.0 after (follows I edit first.0 first.1).frame (frame_all first.0 edits after first.2)

-- one edit more of those that are all made
pub record IsNext (I : Instance) (edits : List Edit) (i : ℕ) (edit : Edit) (before : Instance) : Type 0 where
  pub lawful : IsLawful before
  pub after : Instance
  pub made : edited before edit ≡ Ok after
  pub so_far : edited_all I (take (i + 1) edits) ≡ Ok after

one_edit : (I before : Instance) (edits : List Edit) (i : ℕ) (d : Edit) → i < length edits → edited_all I (take i edits) ≡ Ok before
    → edited_all I (take (i + 1) edits) ≡ edited before (get_or edits i d)
one_edit I before edits i d below so_far =
    ap (edited_all I) (take_more edits i d below) ∙ edited_more I before (take i edits) (get_or edits i d ∷ []) so_far ∙ edited_one before (get_or edits i d)

pub next_made : (I before : Instance) (edits : List Edit) (i : ℕ) (d : Edit) → IsLawful I → i < length edits → IsOk (edited_all I edits)
    → edited_all I (take i edits) ≡ Ok before → IsNext I edits i (get_or edits i d) before
next_made I before edits i d lawful below ok so_far = by (edited_all I (take (i + 1) edits)) refl
  where
    by : (r : Result Instance ℕ) → edited_all I (take (i + 1) edits) ≡ r → IsNext I edits i (get_or edits i d) before
    by (Ok after) e = record {
      lawful = edited_all-lawful I (take i edits) before lawful so_far;
      after = after;
      made = sym (one_edit I before edits i d below so_far) ∙ e;
      so_far = e;
    }
    by (Err number) e =
        let all : edited_all I edits ≡ Err number = sym (ap (edited_all I) (take-append-drop (i + 1) edits)) ∙ refused_more I (take (i + 1) edits) (drop (i + 1) edits) number e in
        absurd (false≢true (sym (ap is_ok all) ∙ ok))

-- there are never more arcs than there may be
pub few_arcs : (I after : Instance) (edits : List Edit) (arcs : ℕ) → IsLawful I → edited_all I edits ≡ Ok after → arcs ≡ length after.arcs → arcs ≤ ARC_LIMIT
few_arcs I after edits arcs lawful e same =
    let later = edited_all-lawful I edits after lawful e in
    omega (arith, later.count, later.room)

-- ---- an edit that is tested once those before it are made

outcome_of : (r : Result Instance EditRefusal) (refusal : EditRefusal) → outcome r ≡ Err refusal → numbered number_of r ≡ Err (number_of refusal)
outcome_of (Ok I) refusal e = cc
outcome_of (Err found) refusal e = let same : found ≡ refusal = cc in ap (λ f. Err (number_of f)) same

outcome_ok : (r : Result Instance EditRefusal) (done : Unit {0}) → outcome r ≡ Ok done → is_ok (numbered number_of r) ≡ true
outcome_ok (Ok I) done e = refl
outcome_ok (Err refusal) done e = cc

-- the next edit is refused, and so are they all
pub all_refused : (I before : Instance) (edits : List Edit) (i : ℕ) (d : Edit) (refusal : EditRefusal) → i < length edits → edited_all I (take i edits) ≡ Ok before
    → outcome (tried before (get_or edits i d)) ≡ Err refusal → outcome (edited_all I edits) ≡ Err (number_of refusal)
all_refused I before edits i d refusal below so_far e =
    let next : edited_all I (take (i + 1) edits) ≡ Err (number_of refusal) = one_edit I before edits i d below so_far ∙ outcome_of (tried before (get_or edits i d)) refusal e in
    ap outcome (sym (ap (edited_all I) (take-append-drop (i + 1) edits)) ∙ refused_more I (take (i + 1) edits) (drop (i + 1) edits) (number_of refusal) next)

-- the next edit is made
pub one_more : (I before : Instance) (edits : List Edit) (i : ℕ) (d : Edit) (done : Unit {0}) → i < length edits → edited_all I (take i edits) ≡ Ok before
    → outcome (tried before (get_or edits i d)) ≡ Ok done → IsOk (edited_all I (take (i + 1) edits))
one_more I before edits i d done below so_far e =
    rw (one_edit I before edits i d below so_far) (outcome_ok (tried before (get_or edits i d)) done e)
