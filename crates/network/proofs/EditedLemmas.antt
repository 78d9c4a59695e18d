-- An edited instance is lawful.
use Rattle.std.proofs.Common.{◌≡◌, ℕ, zero, suc, ◌-◌, ◌≤◌, ℤ, pos, neg_ℤ, ◌≤ℤ◌, int_le, Bool, true, false, ◌&&◌, inl, inr, [], ◌∷◌, ◌++◌, length, length-set, Option, Some, None, Result, Ok, Err, refl, ◌∙◌, arith}
use Rattle.std.proofs.lemmas.Int.{ints}
use Rattle.std.proofs.lemmas.Bool.{false≢true, leb-true, ltb-true, and_parts, not-true}
use Rattle.std.proofs.lemmas.List.{length_push}
use Rattle.std.proofs.lemmas.List.Elements.{All-push, All-set}
use Rattle.std.proofs.lemmas.Option.{slice_get_within, get_or_from_slice_get}
use Rattle.dimacs_text.specs.declared.command.Edit.{Edit}
use Rattle.dimacs_text.specs.declared.command.Edit.TheVariants.{Cap, Low, Cost, Supply, Add, Close}
use Rattle.dimacs_text.specs.declared.problem.ArcRow.{ArcRow}
use Rattle.dimacs_text.specs.declared.problem.TheConstants.{CAP_LIMIT, COST_LIMIT, SUPPLY_LIMIT}
use Rattle.dimacs_text.specs.Lawful.{IsLawfulRow, IsWithin}
use Rattle.network.specs.declared.refusal.EditRefusal.{EditRefusal}
use Rattle.network.specs.declared.refusal.EditRefusal.TheVariants.{OutOfRange, NoSuchNode, LowAboveCap, NotAcrossSides, TableFull, NotForKind}
use Rattle.dimacs_lines.specs.Checks.{numbered}
use Rattle.network.specs.Refusal.{number_of}
use Rattle.network.specs.Edited.{demand, row_or, with_arc, with_last, with_node_supply, edited, edited_by, tried, has_edit, has_room, is_across, is_bound, is_new_row, is_node, is_within, suits_kind}
use Rattle.network.specs.Instance.{Demand, Supplies, Terminals, Sides, Instance, IsLawful, ArcFits, arc_at, kind_of, with_supply}

-- ---- checks that were met

pub demand_ok : {A : Type 0} (met : Bool) (fault : EditRefusal) (rest : Result A EditRefusal) (x : A) → demand met fault rest ≡ Ok x → (met ≡ true) × (rest ≡ Ok x)
demand_ok true fault rest x e = (refl, e)
demand_ok false fault rest x e = cc

pub numbered_ok : (r : Result Instance EditRefusal) (after : Instance) → numbered number_of r ≡ Ok after → r ≡ Ok after
numbered_ok (Ok I) after e = cc
numbered_ok (Err fault) after e = cc

done_is : (I after : Instance) → ◌≡◌ {A = Result Instance EditRefusal} (Ok I) (Ok after) → after ≡ I
done_is I after e = cc

-- ---- what an edit that is made was tested for, and what it leaves

-- arc k, which met a test, has another row
pub record IsRowMade (k : ℕ) (met : ArcRow → Bool) (f : ArcRow → ArcRow) (I after : Instance) : Type 0 where
  pub old : ArcRow
  pub at : arc_at I.arcs k ≡ Some old
  pub met_is : met old ≡ true
  pub made : after ≡ with_arc I k (f old)

pub record IsAddMade (row : ArcRow) (I after : Instance) : Type 0 where
  pub numbers : is_new_row (kind_of I.demand) row.low row.cap row.cost ≡ true
  pub ends : (is_node I.nodes row.tail && is_node I.nodes row.head) ≡ true
  pub order : int_le row.low row.cap ≡ true
  pub across : is_across I.demand row.tail row.head ≡ true
  pub room : has_room I ≡ true
  pub made : after ≡ with_last I row

abbrev pub Makes : Edit → Instance → Instance → Type 0
Makes (Cap k cap) I after = (is_bound cap ≡ true) × IsRowMade k (λ row. int_le row.low cap) (λ row. record row { cap = cap }) I after
Makes (Low k low) I after = (is_bound low ≡ true) × IsRowMade k (λ row. int_le low row.cap) (λ row. record row { low = low }) I after
Makes (Cost k cost) I after = (is_within COST_LIMIT cost ≡ true) × IsRowMade k (λ row. true) (λ row. record row { cost = cost }) I after
Makes (Supply v value) I after = (is_within SUPPLY_LIMIT value ≡ true) × (is_node I.nodes v ≡ true) × (after ≡ with_node_supply I v value)
Makes (Add tail head low cap cost) I after = IsAddMade (record { tail = tail; head = head; low = low; cap = cap; cost = cost }) I after
Makes (Close k) I after = IsRowMade k (λ row. true) (λ row. record row { low = pos 0; cap = pos 0 }) I after

row_made : (I after : Instance) (k : ℕ) (met : ArcRow → Bool) (f : ArcRow → ArcRow)
    → row_or (arc_at I.arcs k) (λ row. demand (met row) LowAboveCap (Ok (with_arc I k (f row)))) ≡ Ok after → IsRowMade k met f I after
row_made I after k met f e = by (arc_at I.arcs k) refl e
  where
    by : (o : Option ArcRow) → arc_at I.arcs k ≡ o → row_or o (λ row. demand (met row) LowAboveCap (Ok (with_arc I k (f row)))) ≡ Ok after → IsRowMade k met f I after
    by None at e = absurd (cc e)
    by (Some old) at e =
        let order = demand_ok (met old) LowAboveCap (Ok (with_arc I k (f old))) after e in
        record { old = old; at = at; met_is = order.0; made = done_is _ after order.1 }

makes : (I : Instance) (edit : Edit) (after : Instance) → edited_by I edit ≡ Ok after → Makes edit I after
makes I (Cap k cap) after e = let range = demand_ok _ OutOfRange _ after e in (range.0, row_made I after k _ _ range.1)
makes I (Low k low) after e = let range = demand_ok _ OutOfRange _ after e in (range.0, row_made I after k _ _ range.1)
makes I (Cost k cost) after e = let range = demand_ok _ OutOfRange _ after e in (range.0, row_made I after k (λ row. true) (λ row. record row { cost = cost }) range.1)
makes I (Supply v value) after e =
    let range = demand_ok _ OutOfRange _ after e in
    let node = demand_ok (is_node I.nodes v) NoSuchNode (Ok (with_node_supply I v value)) after range.1 in
    (range.0, node.0, done_is _ after node.1)
makes I (Add tail head low cap cost) after e =
    let range = demand_ok _ OutOfRange _ after e in
    let nodes = demand_ok (is_node I.nodes tail && is_node I.nodes head) NoSuchNode _ after range.1 in
    let order = demand_ok (int_le low cap) LowAboveCap _ after nodes.1 in
    let across = demand_ok (is_across I.demand tail head) NotAcrossSides _ after order.1 in
    let room = demand_ok (has_room I) TableFull _ after across.1 in
    record { numbers = range.0; ends = nodes.0; order = order.0; across = across.0; room = room.0; made = done_is _ after room.1 }
makes I (Close k) after e = row_made I after k (λ row. true) (λ row. record row { low = pos 0; cap = pos 0 }) e

-- the kind has the edit too
pub edited_makes : (I : Instance) (edit : Edit) (after : Instance) → edited I edit ≡ Ok after → (has_edit (kind_of I.demand) edit ≡ true) × Makes edit I after
edited_makes I edit after e =
    let met = demand_ok (has_edit (kind_of I.demand) edit) NotForKind (edited_by I edit) after (numbered_ok (tried I edit) after e) in
    (met.0, makes I edit after met.1)

pub le_from_test : (a b : ℤ) → int_le a b ≡ true → a ≤ℤ b
le_from_test a b e = grind (arith, ints)

between : (a b x : ℤ) → (int_le a x && int_le x b) ≡ true → (a ≤ℤ x) × (x ≤ℤ b)
between a b x e = let p = and_parts _ _ e in (le_from_test a x p.0, le_from_test x b p.1)

pub node_from_test : (n v : ℕ) → is_node n v ≡ true → (1 ≤ v) × (v ≤ n)
node_from_test n v e = let p = and_parts _ _ e in (leb-true 1 v p.0, leb-true v n p.1)

-- ---- one arc changed

row_of : (I : Instance) (k : ℕ) (row : ArcRow) → IsLawful I → arc_at I.arcs k ≡ Some row → IsLawfulRow I.nodes row × ArcFits I.demand row
row_of I zero row lawful e = cc
row_of I (suc k) row lawful e = rw (get_or_from_slice_get I.arcs k row row e) at (lawful.arcs k row (slice_get_within I.arcs k row e))

lawful_with_arc : (I : Instance) (k : ℕ) (row : ArcRow) → IsLawful I → IsLawfulRow I.nodes row → ArcFits I.demand row → IsLawful (with_arc I k row)
lawful_with_arc I k row lawful limits fits = record {
  nodes = lawful.nodes;
  demand = lawful.demand;
  arcs = All-set (λ arc. IsLawfulRow I.nodes arc × ArcFits I.demand arc) I.arcs (k - 1) row (limits, fits) lawful.arcs;
  count = let l = length-set I.arcs (k - 1) row in omega (arith, lawful.count);
  room = lawful.room;
}

-- an edit of the arc that is there
at_row : (I after : Instance) (k : ℕ) (met : ArcRow → Bool) (f : ArcRow → ArcRow) → IsLawful I → (made : IsRowMade k met f I after)
    → (IsLawfulRow I.nodes made.old → ArcFits I.demand made.old → IsLawfulRow I.nodes (f made.old) × ArcFits I.demand (f made.old)) → IsLawful after
at_row I after k met f lawful made next =
    let old = row_of I k made.old lawful made.at in
    let new = next old.0 old.1 in
    rw made.made (lawful_with_arc I k (f made.old) lawful new.0 new.1)

fits_cap : (D : Demand) (k : ℕ) (cap : ℤ) (row : ArcRow) → has_edit (kind_of D) (Cap k cap) ≡ true → ArcFits D row → ArcFits D (record row { cap = cap })
fits_cap (Supplies supplies) k cap row has fits = tt
fits_cap (Terminals source sink) k cap row has fits = fits
fits_cap (Sides marks) k cap row has fits = absurd (false≢true has)

fits_low : (D : Demand) (k : ℕ) (low : ℤ) (row : ArcRow) → has_edit (kind_of D) (Low k low) ≡ true → ArcFits D (record row { low = low })
fits_low (Supplies supplies) k low row has = tt
fits_low _ k low row has = absurd (false≢true has)

fits_cost : (D : Demand) (k : ℕ) (cost : ℤ) (row : ArcRow) → has_edit (kind_of D) (Cost k cost) ≡ true → ArcFits D row → ArcFits D (record row { cost = cost })
fits_cost (Supplies supplies) k cost row has fits = tt
fits_cost (Terminals source sink) k cost row has fits = absurd (false≢true has)
fits_cost (Sides marks) k cost row has fits = fits

fits_close : (D : Demand) (row : ArcRow) → ArcFits D row → ArcFits D (record row { low = pos 0; cap = pos 0 })
fits_close (Supplies supplies) row fits = tt
fits_close (Terminals source sink) row fits = (refl, fits.1)
fits_close (Sides marks) row fits = (refl, inl refl, fits.2, fits.3)

-- ---- another supply, and a new arc

lawful_supply : (I : Instance) (D : Demand) (v : ℕ) (value : ℤ) → has_edit (kind_of D) (Supply v value) ≡ true → IsWithin SUPPLY_LIMIT value
    → IsLawful (record I { demand = D }) → IsLawful (record I { demand = with_supply D v value })
lawful_supply I (Supplies supplies) v value has within lawful = record {
  nodes = lawful.nodes;
  demand = (length-set supplies (v - 1) value ∙ lawful.demand.0, All-set (IsWithin SUPPLY_LIMIT) supplies (v - 1) value within lawful.demand.1);
  arcs = λ i d below. ((lawful.arcs i d below).0, tt);
  count = lawful.count;
  room = lawful.room;
}
lawful_supply I _ v value has within lawful = absurd (false≢true has)

fits_new : (D : Demand) (row : ArcRow) → pos 0 ≤ℤ row.low → suits_kind (kind_of D) row.low row.cap row.cost ≡ true → is_across D row.tail row.head ≡ true → ArcFits D row
fits_new (Supplies supplies) row low suits across = tt
fits_new (Terminals source sink) row low suits across =
    let p = and_parts _ _ suits in
    let most = le_from_test row.low (pos 0) p.0 in
    let cost = between (pos 0) (pos 0) row.cost p.1 in
    (omega (arith, ints), omega (arith, ints))
fits_new (Sides marks) row low suits across =
    let p = and_parts _ _ suits in
    let most = le_from_test row.low (pos 0) p.0 in
    let cap = between (pos 1) (pos 1) row.cap p.1 in
    let sides = and_parts _ _ across in
    (omega (arith, ints), inr (omega (arith, ints)), sides.0, not-true _ sides.1)

lawful_new : (I : Instance) (row : ArcRow) → IsLawful I → IsLawfulRow I.nodes row → ArcFits I.demand row → has_room I ≡ true → IsLawful (record I { arcs = I.arcs ++ row ∷ [] })
lawful_new I row lawful limits fits room = record {
  nodes = lawful.nodes;
  demand = lawful.demand;
  arcs = All-push (λ arc. IsLawfulRow I.nodes arc × ArcFits I.demand arc) I.arcs row lawful.arcs (limits, fits);
  count = let free = ltb-true (length I.arcs) I.room room in let l = length_push I.arcs row in omega arith;
  room = lawful.room;
}

-- ---- every edit

by_edit : (I : Instance) (edit : Edit) (after : Instance) → IsLawful I → has_edit (kind_of I.demand) edit ≡ true → Makes edit I after → IsLawful after
by_edit I (Cap k cap) after lawful has (range, made) =
    at_row I after k _ _ lawful made (λ old fits. (
      record { tail = old.tail; head = old.head; low = old.low; cap = le_from_test made.old.low cap made.met_is; limit = (between (pos 0) (pos CAP_LIMIT) cap range).1; cost = old.cost },
      fits_cap I.demand k cap made.old has fits,
    ))
by_edit I (Low k low) after lawful has (range, made) =
    at_row I after k _ _ lawful made (λ old fits. (
      record { tail = old.tail; head = old.head; low = (between (pos 0) (pos CAP_LIMIT) low range).0; cap = le_from_test low made.old.cap made.met_is; limit = old.limit; cost = old.cost },
      fits_low I.demand k low made.old has,
    ))
by_edit I (Cost k cost) after lawful has (range, made) =
    at_row I after k _ _ lawful made (λ old fits. (
      record { tail = old.tail; head = old.head; low = old.low; cap = old.cap; limit = old.limit; cost = between (neg_ℤ COST_LIMIT) COST_LIMIT cost range },
      fits_cost I.demand k cost made.old has fits,
    ))
by_edit I (Supply v value) after lawful has (range, node, made) = rw made (lawful_supply I I.demand v value has (between (neg_ℤ SUPPLY_LIMIT) SUPPLY_LIMIT value range) lawful)
by_edit I (Add tail head low cap cost) after lawful has made =
    let numbers = and_parts (is_bound low && is_bound cap) (is_within COST_LIMIT cost && suits_kind (kind_of I.demand) low cap cost) made.numbers in
    let bounds = and_parts (is_bound low) (is_bound cap) numbers.0 in
    let others = and_parts (is_within COST_LIMIT cost) (suits_kind (kind_of I.demand) low cap cost) numbers.1 in
    let lows = between (pos 0) (pos CAP_LIMIT) low bounds.0 in
    let ends = and_parts (is_node I.nodes tail) (is_node I.nodes head) made.ends in
    let row : ArcRow = record { tail = tail; head = head; low = low; cap = cap; cost = cost } in
    let limits : IsLawfulRow I.nodes row = record {
      tail = node_from_test I.nodes tail ends.0;
      head = node_from_test I.nodes head ends.1;
      low = lows.0;
      cap = le_from_test low cap made.order;
      limit = (between (pos 0) (pos CAP_LIMIT) cap bounds.1).1;
      cost = between (neg_ℤ COST_LIMIT) COST_LIMIT cost others.0;
    } in
    rw made.made (lawful_new I row lawful limits (fits_new I.demand row lows.0 others.1 made.across) made.room)
by_edit I (Close k) after lawful has made =
    at_row I after k _ _ lawful made (λ old fits. (
      record { tail = old.tail; head = old.head; low = omega (arith, ints); cap = omega (arith, ints); limit = omega (arith, ints); cost = old.cost },
      fits_close I.demand made.old fits,
    ))

-- an edited instance is lawful
pub edited_lawful : (I : Instance) (edit : Edit) (after : Instance) → IsLawful I → edited I edit ≡ Ok after → IsLawful after
edited_lawful I edit after lawful e = let (has, made) = edited_makes I edit after e in by_edit I edit after lawful has made
