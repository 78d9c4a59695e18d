-- What an accepted edit does to an instance: another row with the same ends, another supply, or an arc more.
use Rattle.std.proofs.Common.{Bool, ◌≡◌, ℕ, zero, suc, ◌-◌, ◌<◌, ◌≤◌, ℤ, true, List, [], ◌∷◌, ◌++◌, length, get_or, Some, Ok, refl, sym, ap, ◌∙◌, arith}
use Rattle.std.proofs.lemmas.Bool.{false≢true}
use Rattle.std.proofs.lemmas.List.{get_or_default}
use Rattle.std.proofs.lemmas.Option.{slice_get_within, get_or_from_slice_get}
use Rattle.dimacs_text.specs.declared.command.Edit.{Edit}
use Rattle.dimacs_text.specs.declared.command.Edit.TheVariants.{Cap, Low, Cost, Supply, Add, Close}
use Rattle.dimacs_text.specs.declared.problem.ArcRow.{ArcRow}
use Rattle.dimacs_text.specs.declared.problem.Kind.TheVariants.{Min}
use Rattle.dimacs_lines.specs.Fields.{IsNode}
use Rattle.network.specs.Edited.{with_arc, edited, has_edit}
use Rattle.network.specs.Instance.{Demand, Supplies, Instance, arc_at, kind_of, with_supply}
use Rattle.network.proofs.EndLemmas.{no_arc}
use Rattle.network.proofs.EditedLemmas.{IsRowMade, Makes, edited_makes, node_from_test}

row_there : (arcs : List ArcRow) (k : ℕ) (row : ArcRow) → arc_at arcs k ≡ Some row → (1 ≤ k) × (k ≤ length arcs) × (get_or arcs (k - 1) no_arc ≡ row)
row_there arcs zero row e = absurd (cc e)
row_there arcs (suc k) row e =
    let below : k < length arcs = slice_get_within arcs k row e in
    let index : suc k - 1 ≡ k = omega arith in
    (omega arith, omega arith, ap (λ (n : ℕ). get_or arcs n no_arc) index ∙ get_or_default arcs k no_arc row below ∙ get_or_from_slice_get arcs k row row e)

-- arc k has another row with the same ends
pub record IsRowChanged (k : ℕ) (I after : Instance) : Type 0 where
  pub row : ArcRow
  pub some : 1 ≤ k
  pub inside : k ≤ length I.arcs
  pub tail : row.tail ≡ (get_or I.arcs (k - 1) no_arc).tail
  pub head : row.head ≡ (get_or I.arcs (k - 1) no_arc).head
  pub changed : after ≡ with_arc I k row

pub record IsSupplyChanged (v : ℕ) (value : ℤ) (I after : Instance) : Type 0 where
  pub kind : kind_of I.demand ≡ Min
  pub node : IsNode I.nodes v
  pub changed : after ≡ record I { demand = with_supply I.demand v value }

pub record IsArcAdded (I after : Instance) : Type 0 where
  pub row : ArcRow
  pub changed : after ≡ record I { arcs = I.arcs ++ row ∷ [] }

abbrev pub IsChangedBy : Edit → Instance → Instance → Type 0
IsChangedBy (Cap k cap) I after = IsRowChanged k I after
IsChangedBy (Low k low) I after = IsRowChanged k I after
IsChangedBy (Cost k cost) I after = IsRowChanged k I after
IsChangedBy (Supply v value) I after = IsSupplyChanged v value I after
IsChangedBy (Add tail head low cap cost) I after = IsArcAdded I after
IsChangedBy (Close k) I after = IsRowChanged k I after

at_row : (I after : Instance) (k : ℕ) (met : ArcRow → Bool) (f : ArcRow → ArcRow) → ((row : ArcRow) → ((f row).tail ≡ row.tail) × ((f row).head ≡ row.head)) → IsRowMade k met f I after → IsRowChanged k I after
at_row I after k met f ends made =
    let there = row_there I.arcs k made.old made.at in
    let same = ends made.old in
    record {
      row = f made.old;
      some = there.0;
      inside = there.1;
      tail = same.0 ∙ sym (ap (λ (a : ArcRow). a.tail) there.2);
      head = same.1 ∙ sym (ap (λ (a : ArcRow). a.head) there.2);
      changed = made.made;
    }

supply_for_min : (D : Demand) (v : ℕ) (value : ℤ) → has_edit (kind_of D) (Supply v value) ≡ true → kind_of D ≡ Min
supply_for_min (Supplies supplies) v value has = refl
supply_for_min _ v value has = absurd (false≢true has)

changed_by : (I : Instance) (edit : Edit) (after : Instance) → has_edit (kind_of I.demand) edit ≡ true → Makes edit I after → IsChangedBy edit I after
changed_by I (Cap k cap) after has made = at_row I after k _ _ (λ row. (refl, refl)) made.1
changed_by I (Low k low) after has made = at_row I after k _ _ (λ row. (refl, refl)) made.1
changed_by I (Cost k cost) after has made = at_row I after k _ _ (λ row. (refl, refl)) made.1
changed_by I (Supply v value) after has (range, node, made) = record { kind = supply_for_min I.demand v value has; node = node_from_test I.nodes v node; changed = made }
changed_by I (Add tail head low cap cost) after has made = record { row = record { tail = tail; head = head; low = low; cap = cap; cost = cost }; changed = made.made }
changed_by I (Close k) after has made = at_row I after k _ _ (λ row. (refl, refl)) made

pub changed_by_edit : (I : Instance) (edit : Edit) (after : Instance) → edited I edit ≡ Ok after → IsChangedBy edit I after
changed_by_edit I edit after e = let (has, made) = edited_makes I edit after e in changed_by I edit after has made
