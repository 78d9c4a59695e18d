-- The places that the parts of a record name.
use Rattle.std.proofs.Common.{◌≡◌, ℕ, zero, suc, ◌+◌, ◌≤◌, Bool, true, false, List, [], ◌∷◌, ◌++◌, length, map, Ok, pos, ℤ, refl, sym, ap, ap₂, ◌∙◌, arith, append_assoc}
use Rattle.std.proofs.Math.ListN.{replicate}
use Rattle.std.specs.Bool.{OnTrue, OnFalse}
use Rattle.std.specs.List.{Contains}
use Rattle.std.proofs.lemmas.Bool.{le-leb}
use Rattle.std.proofs.lemmas.List.{reverse-append}
use Rattle.std.specs.Prelude.{reverse}
use Rattle.history.specs.Boards.{Changes, all_changes, MovesBack, MovesForward}
use Rattle.dimacs_text.specs.declared.problem.ArcRow.{ArcRow}
use Rattle.dimacs_text.specs.declared.command.Edit.{Edit}
use Rattle.dimacs_text.specs.declared.command.Edit.TheVariants as edits
use Rattle.network.specs.Edited.{edited}
use Rattle.network.specs.Instance.{Instance}
use Rattle.network.proofs.EditedShape.{IsChangedBy, changed_by_edit}
use Rattle.flow_solver.specs.Moment.{Moment}
use Rattle.flow_solver.specs.Part.{InstancePlace, OfArc, OfNode, OfNewArc, place_of_part, place_of_edit}
use Rattle.flow_solver.specs.TablesView.{supplies_in}
use Rattle.flow_solver.specs.declared.part.Part.{Part}
use Rattle.flow_solver.specs.declared.part.Part.TheVariants.{Last}
use Rattle.session.specs.Places.{taken}
use Rattle.session.specs.EndingLaws.{length-end_of}
use Rattle.session.specs.Parts.{Named, named, listed, supply_parts, arc_parts, gone_parts, named_turned, no_row, NamedFit}
use Rattle.session.specs.PartsLaws.{turned_flows}
use Rattle.session.specs.Group.{arcs_of, arcs_added, valued, AreNames, ArePartsOf}
use Rattle.session.specs.Record.{Recorded, with_record, record_turned, RecordFits}
use Rattle.session.specs.Session.{places_of, IsHistoryAt}

-- ---- the places of a group of one

names_none : (names : List ℕ) → AreNames names [] → names ≡ []
names_none [] are = refl
names_none (x ∷ names) are = let (i, below, is) = (are.same x).0 (0, omega arith, refl) in absurd (omega (arith, below))

names_one : (names : List ℕ) (k : ℕ) → AreNames names (k ∷ []) → names ≡ k ∷ []
names_one [] k are = let (i, below, is) = (are.same k).1 (0, omega arith, refl) in absurd (omega (arith, below))
names_one (x ∷ []) k are = ap (λ (n : ℕ). n ∷ []) (is_one k x ((are.same x).0 (0, omega arith, refl)))
  where
    is_one : (k x : ℕ) → Contains (k ∷ []) x → x ≡ k
    is_one k x (zero, below, is) = sym is
    is_one k x (suc i, below, is) = absurd (omega arith)
names_one (x ∷ y ∷ names) k are =
    let first = is_one k x ((are.same x).0 (0, omega arith, refl)) in
    let second = is_one k y ((are.same y).0 (1, omega arith, refl)) in
    absurd (omega (arith, first, second, are.rising 0 1 x (omega arith) (omega arith)))
  where
    is_one : (k x : ℕ) → Contains (k ∷ []) x → x ≡ k
    is_one k x (zero, below, is) = sym is
    is_one k x (suc i, below, is) = absurd (omega arith)

-- the places of parts that name these nodes and arcs, and arcs that were added
places_named : (I : Instance) (edits : List Edit) (ps : List Part) (are : ArePartsOf edits I ps) (nodes arcs : List ℕ) → are.nodes ≡ nodes → are.arcs ≡ arcs → map place_of_part ps ≡ map place_of_part (listed (record { supplies = valued nodes (supplies_in I.demand) (pos 0); rows = valued arcs I.arcs no_row; come_rows = []; come_flows = []; go = arcs_added edits }))
places_named I edits ps are nodes arcs same_nodes same_arcs =
    ap (map place_of_part) are.parts
    ∙ ap₂ (λ (ns ks : List ℕ). map place_of_part (listed (record { supplies = valued ns (supplies_in I.demand) (pos 0); rows = valued ks I.arcs no_row; come_rows = []; come_flows = []; go = arcs_added edits }))) same_nodes same_arcs

-- the arc of an edit is one of those there
one_arc : (n k : ℕ) (names : List ℕ) → k ≤ n → AreNames names (arcs_of n (edits.Close k ∷ [])) → names ≡ k ∷ []
one_arc n k names there are = names_one names k (rw (le-leb k n there) at are)

pub one_place : (edit : Edit) (I J : Instance) (ps : List Part) → edited I edit ≡ Ok J → ArePartsOf (edit ∷ []) I ps → map place_of_part ps ≡ place_of_edit edit ∷ []
one_place edit I J ps accepted are = by edit ps are (changed_by_edit I edit J accepted)
  where
    by : (edit : Edit) (ps : List Part) → ArePartsOf (edit ∷ []) I ps → IsChangedBy edit I J → map place_of_part ps ≡ place_of_edit edit ∷ []
    by (edits.Cap k cap) ps are is = places_named I (edits.Cap k cap ∷ []) ps are [] (k ∷ []) (names_none are.nodes are.nodes_named) (one_arc (length I.arcs) k are.arcs is.inside are.arcs_named)
    by (edits.Low k low) ps are is = places_named I (edits.Low k low ∷ []) ps are [] (k ∷ []) (names_none are.nodes are.nodes_named) (one_arc (length I.arcs) k are.arcs is.inside are.arcs_named)
    by (edits.Cost k cost) ps are is = places_named I (edits.Cost k cost ∷ []) ps are [] (k ∷ []) (names_none are.nodes are.nodes_named) (one_arc (length I.arcs) k are.arcs is.inside are.arcs_named)
    by (edits.Supply v value) ps are is = places_named I (edits.Supply v value ∷ []) ps are (v ∷ []) [] (names_one are.nodes v are.nodes_named) (names_none are.arcs are.arcs_named)
    by (edits.Add tail head low cap cost) ps are is = places_named I (edits.Add tail head low cap cost ∷ []) ps are [] [] (names_none are.nodes are.nodes_named) (names_none are.arcs are.arcs_named)
    by (edits.Close k) ps are is = places_named I (edits.Close k ∷ []) ps are [] (k ∷ []) (names_none are.nodes are.nodes_named) (one_arc (length I.arcs) k are.arcs is.inside are.arcs_named)

-- ---- a turned record names the same places

abbrev nodes_at : List (ℕ × ℤ) → List InstancePlace
nodes_at places = map (λ p. OfNode p.0) places

abbrev arcs_at : List (ℕ × ArcRow) → List InstancePlace
arcs_at places = map (λ p. OfArc p.0) places

at_nodes : (places : List (ℕ × ℤ)) (qs : List Part) → map place_of_part (supply_parts places ++ qs) ≡ nodes_at places ++ map place_of_part qs
at_nodes [] qs = refl
at_nodes (p ∷ places) qs = ap (λ at. OfNode p.0 ∷ at) (at_nodes places qs)

at_arcs : (places : List (ℕ × ArcRow)) (qs : List Part) → map place_of_part (arc_parts places ++ qs) ≡ arcs_at places ++ map place_of_part qs
at_arcs [] qs = refl
at_arcs (p ∷ places) qs = ap (λ at. OfArc p.0 ∷ at) (at_arcs places qs)

at_last : (n : ℕ) → map place_of_part (replicate n Last) ≡ replicate n OfNewArc
at_last zero = refl
at_last (suc n) = ap (λ at. OfNewArc ∷ at) (at_last n)

at_end : (rows : List ArcRow) (flows : List ℤ) (n : ℕ) → length flows ≡ length rows → map place_of_part (gone_parts rows flows ++ replicate n Last) ≡ replicate (length rows + n) OfNewArc
at_end [] flows n same = at_last n ∙ ap (λ (k : ℕ). replicate k OfNewArc) {x = n} {y = length {A = ArcRow} [] + n} (omega arith)
at_end (row ∷ rows) [] n same = absurd (omega arith)
at_end (row ∷ rows) (flow ∷ flows) n same = ap (λ at. OfNewArc ∷ at) (at_end rows flows n (omega arith)) ∙ ap (λ (k : ℕ). replicate k OfNewArc) {x = suc (length rows + n)} {y = length (row ∷ rows) + n} (omega arith)

at_listed : (N : Named) → length N.come_flows ≡ length N.come_rows → map place_of_part (listed N) ≡ nodes_at N.supplies ++ (arcs_at N.rows ++ replicate (length N.come_rows + N.go) OfNewArc)
at_listed N same =
    at_nodes N.supplies _ ∙ ap (λ at. nodes_at N.supplies ++ at) (at_arcs N.rows _ ∙ ap (λ at. arcs_at N.rows ++ at) (at_end N.come_rows N.come_flows N.go same))

nodes_taken : (places : List (ℕ × ℤ)) (xs : List ℤ) → nodes_at (taken places xs) ≡ nodes_at places
nodes_taken [] xs = refl
nodes_taken (p ∷ places) xs = ap (λ at. OfNode p.0 ∷ at) (nodes_taken places xs)

arcs_taken : (places : List (ℕ × ArcRow)) (xs : List ArcRow) → arcs_at (taken places xs) ≡ arcs_at places
arcs_taken [] xs = refl
arcs_taken (p ∷ places) xs = ap (λ at. OfArc p.0 ∷ at) (arcs_taken places xs)

places_turned : (r : Recorded) (m : Moment) → RecordFits r m → places_of (record_turned r m) ≡ places_of r
places_turned r m fits =
    let N : Named = named r.parts in
    let fit : NamedFit N m.instance = fits.parts.fit in
    let gone = length-end_of N.go m.instance.arcs fit.go in
    at_listed (named_turned N m) (turned_flows N m fit fits.in_range.one_an_arc)
    ∙ ap₂ ◌++◌ (nodes_taken N.supplies (supplies_in m.instance.demand)) (ap₂ ◌++◌ (arcs_taken N.rows m.instance.arcs) (ap (λ (k : ℕ). replicate k OfNewArc) (omega (arith, gone))))
    ∙ sym (at_listed N fit.one_flow)
    ∙ ap (map place_of_part) (sym fits.parts.normal)

-- ---- a step keeps the places of each record

one_turned : (xs ys : List Recorded) (a b : Recorded) → places_of a ≡ places_of b → map places_of (xs ++ a ∷ ys) ≡ map places_of (xs ++ b ∷ ys)
one_turned [] ys a b same = ap (λ at. at ∷ map places_of ys) same
one_turned (x ∷ xs) ys a b same = ap (λ at. places_of x ∷ at) (one_turned xs ys a b same)

pub places_back : (moved : Bool) (old new : Changes Recorded) (m d : Moment) → IsHistoryAt old m → OnTrue moved (MovesBack record_turned with_record old new m d) → OnFalse moved (new ≡ old) → map places_of (all_changes new) ≡ map places_of (all_changes old)
places_back true old new m d kept (c, past, future, is_d) same =
    let fit = (rw (ap reverse past ∙ reverse-append new.past (c ∷ [])) at kept.stands.back).0 in
    ap (λ rs. map places_of (new.past ++ rs)) future
    ∙ one_turned new.past old.future (record_turned c m) c (places_turned c m fit)
    ∙ ap (map places_of) (sym (append_assoc new.past (c ∷ []) old.future) ∙ ap (λ rs. rs ++ old.future) (sym past))
places_back false old new m d kept moves same = ap (λ (h : Changes Recorded). map places_of (all_changes h)) same

pub places_forward : (moved : Bool) (old new : Changes Recorded) (m d : Moment) → IsHistoryAt old m → OnTrue moved (MovesForward record_turned with_record old new m d) → OnFalse moved (new ≡ old) → map places_of (all_changes new) ≡ map places_of (all_changes old)
places_forward true old new m d kept (c, future, past, is_d) same =
    let fit = (rw future at kept.stands.forward).0 in
    ap (λ rs. map places_of (rs ++ new.future)) past
    ∙ ap (map places_of) (append_assoc old.past (record_turned c m ∷ []) new.future)
    ∙ one_turned old.past new.future (record_turned c m) c (places_turned c m fit)
    ∙ ap (λ rs. map places_of (old.past ++ rs)) (sym future)
places_forward false old new m d kept moves same = ap (λ (h : Changes Recorded). map places_of (all_changes h)) same
