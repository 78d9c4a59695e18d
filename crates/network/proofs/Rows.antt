-- The rows of a network: the return arc, where there is one, then the arcs.
use Rattle.std.proofs.Common.{◌≡◌, ℕ, suc, ◌+◌, ◌-◌, ◌*◌, ◌<◌, ◌≤◌, ℤ, List, [], ◌∷◌, ◌++◌, All, Option, replicate, None, Some, length, set, slice_index_or, refl, sym, ap, subst, ◌∙◌, arith}
use Rattle.std.proofs.lemmas.List.{get_or_default, get_or-replicate, length-map, length-replicate, map-set}
use Rattle.std.proofs.Math.ListN.{get_or-map}
use Rattle.dimacs_text.specs.declared.problem.ArcRow.{ArcRow}
use Rattle.dimacs_text.specs.declared.problem.TheConstants.{SUPPLY_LIMIT}
use Rattle.dimacs_text.specs.Lawful.{IsWithin}
use Rattle.network.specs.declared.Goal.{Goal}
use Rattle.network.specs.declared.Goal.TheVariants.{LeastCost, GreatestFlow}
use Rattle.network.specs.Ends.{AreEndLists}
use Rattle.network.specs.Instance.{Demand, Supplies, IsLawful, at_node, reduced_arcs, reduced_supply, return_arc}
use Rattle.network.specs.Rows.{return_arcs}
use Rattle.network.specs.Representation.{arcs_in, demand_by, ends_in, front, instance_of, listed_end, return_rows, IsSound}

pub rows_counted : (D : Demand) (arcs : List ArcRow) → return_arcs D + length arcs ≡ length (reduced_arcs D arcs)
rows_counted (Supplies s) arcs = omega arith
rows_counted _ arcs = omega arith

-- ---- by what is asked for

-- the rows of these arcs
pub begun : (goal : Goal) (supplies : List ℤ) (arcs : List ArcRow) → return_rows goal ++ arcs ≡ reduced_arcs (demand_by goal supplies) arcs
begun LeastCost supplies arcs = refl
begun _ supplies arcs = refl

-- the arcs among the rows of these arcs
arcs_among : (goal : Goal) (supplies : List ℤ) (arcs : List ArcRow) → arcs_in goal (reduced_arcs (demand_by goal supplies) arcs) ≡ arcs
arcs_among LeastCost supplies arcs = refl
arcs_among _ supplies arcs = refl

module _ (goal : Goal) (supplies : List ℤ) (rows arcs : List ArcRow) (are : rows ≡ reduced_arcs (demand_by goal supplies) arcs) where
  pub arcs_are : arcs_in goal rows ≡ arcs
  arcs_are = ap (arcs_in goal) are ∙ arcs_among goal supplies arcs

  pub rows_again : rows ≡ reduced_arcs (demand_by goal supplies) (arcs_in goal rows)
  rows_again = are ∙ ap (reduced_arcs (demand_by goal supplies)) (sym arcs_are)

  -- a network of these arcs
  pub sound_of : (nodes room : ℕ) (first next : List (Option ℕ)) (rows_room next_room : ℕ) → IsLawful (instance_of nodes goal supplies arcs room) → length supplies ≡ nodes
      → ((v : ℕ) → 1 ≤ v → v ≤ nodes → at_node supplies v ≡ reduced_supply (demand_by goal supplies) v) → All (IsWithin SUPPLY_LIMIT) supplies
      → AreEndLists nodes arcs first next → front goal + room ≤ rows_room → 2 * room ≤ next_room → IsSound nodes goal supplies rows room first next rows_room next_room
  sound_of nodes room first next rows_room next_room lawful sized supply_is small lists rows_fit ends_fit = record {
    rows_are = rows_again;
    lawful = subst (λ (a : List ArcRow). IsLawful (instance_of nodes goal supplies a room)) (sym arcs_are) lawful;
    supplies_len = sized;
    supply_is = supply_is;
    supplies_small = small;
    lists = subst (λ (a : List ArcRow). AreEndLists nodes a first next) (sym arcs_are) lists;
    rows_fit = rows_fit;
    ends_fit = ends_fit;
  }

  pub instance_is : (nodes room : ℕ) → instance_of nodes goal supplies (arcs_in goal rows) room ≡ instance_of nodes goal supplies arcs room
  instance_is nodes room = ap (λ (a : List ArcRow). instance_of nodes goal supplies a room) arcs_are

-- ---- one arc more, another one, or one less

pub rows_push : (D : Demand) (arcs : List ArcRow) (a : ArcRow) → reduced_arcs D arcs ++ a ∷ [] ≡ reduced_arcs D (arcs ++ a ∷ [])
rows_push (Supplies s) arcs a = refl
rows_push _ arcs a = refl

pub rows_set : (goal : Goal) (supplies : List ℤ) (arcs : List ArcRow) (i : ℕ) (a : ArcRow) → set (reduced_arcs (demand_by goal supplies) arcs) (front goal + i) a ≡ reduced_arcs (demand_by goal supplies) (set arcs i a)
rows_set (GreatestFlow source sink) supplies arcs i a = (let one : 1 + i ≡ suc i = omega arith in ap (λ (n : ℕ). set (return_arc source sink ∷ arcs) n a) one)
rows_set _ supplies arcs i a = (let none : 0 + i ≡ i = omega arith in ap (λ (n : ℕ). set arcs n a) none)

-- the rows but the last, where there is an arc
pub record IsLess (goal : Goal) (supplies : List ℤ) (rows : List ArcRow) (a : ArcRow) : Type 0 where
  pub rows_are : rows ≡ reduced_arcs (demand_by goal supplies) (arcs_in goal rows)
  pub arcs_are : arcs_in goal (rows ++ a ∷ []) ≡ arcs_in goal rows ++ a ∷ []

pub rows_pop : (goal : Goal) (supplies : List ℤ) (rows : List ArcRow) (a : ArcRow) → rows ++ a ∷ [] ≡ reduced_arcs (demand_by goal supplies) (arcs_in goal (rows ++ a ∷ [])) → 0 < length (arcs_in goal (rows ++ a ∷ [])) → IsLess goal supplies rows a
rows_pop (GreatestFlow source sink) supplies [] a are some = absurd (omega (arith, some))
rows_pop (GreatestFlow source sink) supplies (r ∷ rows) a are some = record {
  rows_are = ap (λ (b : ArcRow). b ∷ rows) (ap (λ (all : List ArcRow). slice_index_or all 0 r) are);
  arcs_are = refl;
}
rows_pop _ supplies rows a are some = record { rows_are = refl; arcs_are = refl }

-- ---- lists of ends

pub entry_is : (entries : List ℕ) (i : ℕ) → listed_end (slice_index_or entries i 0) ≡ slice_index_or (ends_in entries) i None
entry_is entries i = sym (get_or-map listed_end entries i 0)

pub entry_read : (entries : List ℕ) (i entry : ℕ) (end : Option ℕ) → i < length (ends_in entries) → entry ≡ slice_index_or entries i entry → end ≡ listed_end entry → end ≡ slice_index_or (ends_in entries) i None
entry_read entries i entry end there is same = same ∙ ap listed_end (is ∙ get_or_default entries i entry 0 (omega (arith, there, length-map entries listed_end))) ∙ entry_is entries i

pub ends_set : (entries : List ℕ) (i end : ℕ) → ends_in (set entries i (end + 1)) ≡ set (ends_in entries) i (Some end)
ends_set entries i end =
    let next : listed_end (end + 1) ≡ Some end = (let more : end + 1 ≡ suc end = omega arith in ap listed_end more) in
    map-set listed_end entries i (end + 1) ∙ ap (set (ends_in entries) i) next

-- where there is no arc, no node has an end
pub no_ends : (nodes n : ℕ) → n ≡ nodes → AreEndLists nodes [] (ends_in (replicate n 0)) (ends_in [])
no_ends nodes n same = record {
  first_len = length-map (replicate n 0) listed_end ∙ length-replicate n 0 ∙ same;
  next_len = refl;
  first_is = λ v l h. sym (entry_is (replicate n 0) (v - 1)) ∙ ap listed_end (get_or-replicate n (v - 1) 0 0 (omega (arith, l, h, same)));
  next_is = λ end h. absurd (omega (arith, h));
}
