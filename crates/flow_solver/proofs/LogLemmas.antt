-- What a log tells of the instance before it: its arcs, its supplies and its flow, place by place.
use Rattle.std.proofs.Common.{◌≡◌, ◌≢◌, ℕ, zero, suc, ◌+◌, ◌-◌, ◌<◌, ◌≤◌, ℤ, pos, List, [], ◌∷◌, length, take, drop, get_or, slice_set, slice_get, refl, sym, ap, subst, ◌∙◌, inl, inr, arith, Option, None, Some, IsSome}
use Rattle.std.specs.Prelude.{IfSome}
use Rattle.std.proofs.lemmas.Bool.{cases_lt}
use Rattle.std.proofs.lemmas.List.{drop_more, get_or-set_same, get_or-set_other, length-set, length-take-le}
use Rattle.std.proofs.lemmas.Option.{slice_get-get_or, slice_get_past}
use native.Mathlib.Numerals.{unary_clauses}
use Rattle.network.proofs.EndLinks.{slice_get-set_other}
use Rattle.dimacs_text.specs.declared.problem.ArcRow.{ArcRow}
use Rattle.dimacs_text.specs.declared.problem.Kind.TheVariants.{Min}
use Rattle.dimacs_lines.specs.Fields.{IsNode}
use Rattle.network.specs.Instance.{Demand, Supplies, Instance, IsLawful, DemandFits, arc_at, kind_of, reduced_supply, with_supply}
use Rattle.flow_solver.specs.declared.part.Part.{Part}
use Rattle.flow_solver.specs.declared.part.Part.TheVariants.{Arc, Supply, Last}
use Rattle.flow_solver.specs.declared.verdict.Verdict.{Verdict}
use Rattle.flow_solver.specs.Moment.{Snapshot}
use Rattle.network.specs.Rows.{return_arcs}
use Rattle.flow_solver.specs.Part.{before_all, before_of, before_part, CanTakeBack, CanTakeBackAll, IsKept, LeadsBack}
use Rattle.flow_solver.proofs.TablesViewLemmas.{return_arcs_before}
use Rattle.flow_solver.proofs.GroupLemmas.{length-rows}

-- ---- the end of a log

can_drop : (i : ℕ) (log : List Part) (I : Instance) → CanTakeBackAll log I → CanTakeBackAll (drop i log) I
can_drop zero log I can = can
can_drop (suc i) [] I can = tt
can_drop (suc i) (part ∷ log) I can = can_drop i log I can.0

-- one part more of the log, from its end
pub before_previous : (log : List Part) (i : ℕ) (d part : Part) (I : Instance) → 0 < i → i ≤ length log → get_or log (i - 1) d ≡ part → before_all (drop (i - 1) log) I ≡ before_part part (before_all (drop i log) I)
before_previous log i d part I some inside is =
    let more : i - 1 + 1 ≡ i = omega (arith, some) in
    ap (λ (ps : List Part). before_all ps I) (drop_more log (i - 1) d (omega (arith, some, inside)))
    ∙ ap (λ (n : ℕ). before_part (get_or log (i - 1) d) (before_all (drop n log) I)) more
    ∙ ap (λ (p : Part). before_part p (before_all (drop i log) I)) is

-- it can be taken back once those after it are
pub can_previous : (log : List Part) (i : ℕ) (d part : Part) (I : Instance) → 0 < i → i ≤ length log → get_or log (i - 1) d ≡ part → CanTakeBackAll log I → CanTakeBack part (before_all (drop i log) I)
can_previous log i d part I some inside is can =
    let more : i - 1 + 1 ≡ i = omega (arith, some) in
    let next = (subst (λ (ps : List Part). CanTakeBackAll ps I) (drop_more log (i - 1) d (omega (arith, some, inside))) (can_drop (i - 1) log I can)).1 in
    subst (λ (p : Part). CanTakeBack p (before_all (drop i log) I)) is
    (subst (λ (n : ℕ). CanTakeBack (get_or log (i - 1) d) (before_all (drop n log) I)) more next)

-- ---- arcs

-- the arc with the number k, if it is there, among so many arcs
pub record IsArcAt (k : ℕ) (I : Instance) (row : Option ArcRow) (arcs : ℕ) : Type 0 where
  pub row_is : row ≡ arc_at I.arcs k
  pub many : arcs ≡ length I.arcs

pub row_found : (k : ℕ) (other : ArcRow) (I : Instance) (row : Option ArcRow) (arcs : ℕ) → CanTakeBack (Arc k other) I → IsArcAt k I row arcs → IsArcAt k (before_part (Arc k other) I) (Some other) arcs
row_found zero other I row arcs can at = absurd (omega (arith, can.0.0))
row_found (suc k) other I row arcs can at =
    let there = get_or-set_same I.arcs k other other (omega (arith, can.0.1)) in
    record {
      row_is = sym (simp unary_clauses (slice_get-get_or (slice_set I.arcs k other) k other (omega (arith, can.0.1, length-set I.arcs k other)) ∙ ap Some there));
      many = at.many ∙ sym (length-set I.arcs (suc k - 1) other);
    }

pub row_passed : (k a : ℕ) (other : ArcRow) (I : Instance) (row : Option ArcRow) (arcs : ℕ) → a ≢ k → CanTakeBack (Arc a other) I → IsArcAt k I row arcs → IsArcAt k (before_part (Arc a other) I) row arcs
row_passed zero a other I row arcs differ can at = record { row_is = at.row_is; many = at.many ∙ sym (length-set I.arcs (a - 1) other) }
row_passed (suc k) a other I row arcs differ can at = record {
  row_is = at.row_is ∙ sym (slice_get-set_other I.arcs (a - 1) k other (λ same. differ (omega (arith, same, can.0.0))));
  many = at.many ∙ sym (length-set I.arcs (a - 1) other);
}

length-front : {X : Type 0} (xs : List X) → length (take (length xs - 1) xs) ≡ length xs - 1
length-front xs = length-take-le (length xs - 1) xs (omega arith)

get-take : {X : Type 0} (n : ℕ) (xs : List X) (i : ℕ) → i < n → slice_get (take n xs) i ≡ slice_get xs i
get-take zero xs i below = absurd (omega (arith, below))
get-take (suc n) (x ∷ xs) (suc i) below = get-take n xs i (omega (arith, below))
get-take (suc n) _ _ below = refl

-- each entry but the last
front_at : {X : Type 0} (xs : List X) (i : ℕ) → length xs ≢ suc i → slice_get (take (length xs - 1) xs) i ≡ slice_get xs i
front_at xs i other = elim (cases_lt i (length xs - 1)) [
  | inl lt ↦ get-take (length xs - 1) xs i lt
  | inr past ↦ slice_get_past (take (length xs - 1) xs) i (omega (arith, past, length-front xs)) ∙ sym (slice_get_past xs i (omega (arith, past, other)))
]

pub row_gone : (k : ℕ) (I : Instance) (row : Option ArcRow) (arcs fewer : ℕ) → arcs ≡ k → fewer ≡ arcs - 1 → CanTakeBack Last I → IsArcAt k I row arcs → IsArcAt k (before_part Last I) None fewer
row_gone zero I row arcs fewer last less can at = record { row_is = refl; many = omega (arith, less, at.many, length-front I.arcs) }
row_gone (suc k) I row arcs fewer last less can at =
    let front = length-front I.arcs in
    record { row_is = sym (slice_get_past (take (length I.arcs - 1) I.arcs) k (omega (arith, front, last, at.many))); many = omega (arith, less, at.many, front) }

pub row_left : (k : ℕ) (I : Instance) (row : Option ArcRow) (arcs fewer : ℕ) → arcs ≢ k → fewer ≡ arcs - 1 → CanTakeBack Last I → IsArcAt k I row arcs → IsArcAt k (before_part Last I) row fewer
row_left zero I row arcs fewer inner less can at = record { row_is = at.row_is; many = omega (arith, less, at.many, length-front I.arcs) }
row_left (suc k) I row arcs fewer inner less can at =
    let front = length-front I.arcs in
    record { row_is = at.row_is ∙ sym (front_at I.arcs k (λ same. inner (omega (arith, at.many, same)))); many = omega (arith, less, at.many, front) }

-- ---- supplies

pub nodes_before : (log : List Part) (I : Instance) → (before_all log I).nodes ≡ I.nodes
nodes_before [] I = refl
nodes_before (Last ∷ log) I = nodes_before log I
nodes_before (_ ∷ log) I = nodes_before log I

-- as many supplies as nodes, where the kind has supplies
abbrev pub AreAllSupplied : ℕ → Demand → Type 0
AreAllSupplied nodes (Supplies supplies) = length supplies ≡ nodes
AreAllSupplied nodes _ = Unit {0}

supplied_now : (nodes : ℕ) (D : Demand) → DemandFits nodes D → AreAllSupplied nodes D
supplied_now nodes (Supplies supplies) fits = fits.0
supplied_now nodes _ fits = tt

supplied_set : (nodes : ℕ) (D : Demand) (v : ℕ) (value : ℤ) → AreAllSupplied nodes D → AreAllSupplied nodes (with_supply D v value)
supplied_set nodes (Supplies supplies) v value all = length-set supplies (v - 1) value ∙ all
supplied_set nodes _ v value all = tt

supplied_before : (log : List Part) (I : Instance) → AreAllSupplied I.nodes I.demand → AreAllSupplied I.nodes (before_all log I).demand
supplied_before [] I all = all
supplied_before (Supply v value ∷ log) I all = supplied_set I.nodes (before_all log I).demand v value (supplied_before log I all)
supplied_before (_ ∷ log) I all = supplied_before log I all

supply_here : (nodes : ℕ) (D : Demand) (v : ℕ) (value : ℤ) → kind_of D ≡ Min → AreAllSupplied nodes D → (1 ≤ v) × (v ≤ nodes) → reduced_supply (with_supply D v value) v ≡ value
supply_here nodes (Supplies supplies) v value kind all node = get_or-set_same supplies (v - 1) value (pos 0) (omega (arith, all, node.0, node.1))
supply_here nodes _ v value kind all node = cc

supply_there : (D : Demand) (v u : ℕ) (value : ℤ) → v ≢ u → 1 ≤ v → 1 ≤ u → reduced_supply (with_supply D v value) u ≡ reduced_supply D u
supply_there (Supplies supplies) v u value differ one first = get_or-set_other supplies (v - 1) (u - 1) value (pos 0) (λ same. differ (omega (arith, same, one, first)))
supply_there _ v u value differ one first = refl

-- what a node has to send out before all that is logged from the i-th part on, if it is a node
pub record IsSupplyAt (v : ℕ) (I : Instance) (log : List Part) (i : ℕ) (supply : Option ℤ) : Type 0 where
  pub inside : i ≤ length log
  pub node : IsNode I.nodes v → supply ≡ Some (reduced_supply (before_all (drop i log) I).demand v)
  pub no_node : (IsNode I.nodes v → ⊥) → supply ≡ None

pub supply_found : (v i : ℕ) (value : ℤ) (log : List Part) (d : Part) (I : Instance) (supply : Option ℤ) → IsLawful I → CanTakeBackAll log I → 0 < i → get_or log (i - 1) d ≡ Supply v value → IsSupplyAt v I log i supply → IsSupplyAt v I log (i - 1) (Some value)
supply_found v i value log d I supply lawful can some is at =
    let rest = drop i log in
    let fits = can_previous log i d (Supply v value) I some at.inside is can in
    let nodes = nodes_before rest I in
    let there : (1 ≤ v) × (v ≤ I.nodes) = (fits.1.0, omega (arith, fits.1.1, nodes)) in
    let here = supply_here I.nodes (before_all rest I).demand v value fits.0 (supplied_before rest I (supplied_now I.nodes I.demand lawful.demand)) there in
    let back = before_previous log i d (Supply v value) I some at.inside is in
    record {
      inside = omega (arith, at.inside);
      node = λ node. ap Some (sym (ap (λ (J : Instance). reduced_supply J.demand v) back ∙ here));
      no_node = λ none. absurd (none there);
    }

pub supply_passed : (v u i : ℕ) (value : ℤ) (log : List Part) (d : Part) (I : Instance) (supply : Option ℤ) → u ≢ v → CanTakeBackAll log I → 0 < i → get_or log (i - 1) d ≡ Supply u value → IsSupplyAt v I log i supply → IsSupplyAt v I log (i - 1) supply
supply_passed v u i value log d I supply differ can some is at =
    let rest = drop i log in
    let fits = can_previous log i d (Supply u value) I some at.inside is can in
    let back = before_previous log i d (Supply u value) I some at.inside is in
    record {
      inside = omega (arith, at.inside);
      node = λ node. at.node node ∙ ap Some (sym (ap (λ (J : Instance). reduced_supply J.demand v) back ∙ supply_there (before_all rest I).demand u v value differ fits.1.0 node.0));
      no_node = at.no_node;
    }

-- ---- the moment before

-- it leads back to that moment
pub leads_before : (told : Option Verdict) (I : Instance) (kept : Snapshot) → IsKept told I kept → IfSome (before_of told I kept) (λ old. LeadsBack kept.log old.instance I)
leads_before None I kept is = tt
leads_before (Some verdict) I kept is = record { can = is.0; back = refl }

-- ---- flows

-- the flow that was kept has the return arc, where there is one
pub return_kept : (told : Option Verdict) (I : Instance) (kept : Snapshot) → IsSome (before_of told I kept) → IsKept told I kept → return_arcs I.demand ≤ length kept.flow
return_kept None I kept some is = cc
return_kept (Some verdict) I kept some is =
    let J = before_all kept.log I in
    omega (arith, is.1, length-rows J.demand J.arcs, return_arcs_before kept.log I)
