-- How the last change of an instance leads back.
use Rattle.std.proofs.Common.{◌≡◌, ℕ, ◌-◌, ◌<◌, ◌≤◌, ℤ, pos, List, [], ◌∷◌, ◌++◌, length, take, sym, ap, ◌∙◌, arith, slice_set, slice_index_or, Some, Ok}
use Rattle.std.proofs.lemmas.List.{set-set, set-get_or, length-set, length-append, get_or-set_same}
use Rattle.std.proofs.lemmas.List.Elements.{All-get_or}
use Rattle.std.proofs.Math.Seq.{take-append_seam}
use Rattle.dimacs_text.specs.declared.command.Edit.{Edit}
use Rattle.dimacs_text.specs.declared.problem.ArcRow.{ArcRow}
use Rattle.dimacs_text.specs.declared.problem.TheConstants.{SUPPLY_LIMIT}
use Rattle.dimacs_text.specs.declared.problem.Kind.TheVariants.{Min}
use Rattle.dimacs_text.specs.Lawful.{IsWithin}
use Rattle.network.specs.Edited.{edited, with_last}
use Rattle.network.specs.Instance.{Demand, Supplies, Instance, IsLawful, DemandFits, arc_at, at_node, kind_of, reduced_supply, with_supply}
use Rattle.flow_solver.specs.declared.part.Part.{Part}
use Rattle.flow_solver.specs.declared.part.Part.TheVariants.{Arc, Supply, Last}
use Rattle.flow_solver.specs.Edit.{IsRowEdit, IsSupplyEdit, IsAddEdit}
use Rattle.flow_solver.specs.Part.{before_part, CanTakeBack, TakesBack}
use Rattle.residual_graph.proofs.GraphLemmas.{with_row}
use Rattle.flow_solver.proofs.ChangeLemmas.{supplied}
use Rattle.flow_solver.proofs.EditRows.{row_there}

-- the edit gives this instance alone, so it is enough to lead back from there
from_after : (I after : Instance) (edit : Edit) (part : Part) → edited I edit ≡ Ok after → CanTakeBack part after → before_part part after ≡ I → TakesBack I edit part
from_after I after edit part is can back = record { can = λ J e. rw (same_as J e) can; back = λ J e. rw (same_as J e) back }
  where
    same_as : (J : Instance) → edited I edit ≡ Ok J → J ≡ after
    same_as J e = (let both = sym is ∙ e in cc)

pub row_back : (I : Instance) (edit : Edit) (k : ℕ) (old row : ArcRow) → IsLawful I → arc_at I.arcs k ≡ Some old → IsRowEdit I edit k row → TakesBack I edit (Arc k old)
row_back I edit k old row lawful is change =
    let at = change.arc in
    let lt : k - 1 < length I.arcs = omega (arith, at.0, at.1) in
    let here : slice_index_or (slice_set I.arcs (k - 1) row) (k - 1) old ≡ row = get_or-set_same I.arcs (k - 1) row old lt in
    let was = row_there I.arcs k old row is in
    let itself = row_there I.arcs k old old is in
    let lawful_old = rw itself at (lawful.arcs (k - 1) old lt) in
    from_after I (with_row I (k - 1) row) edit (Arc k old) change.after (
      (
        at.0,
        omega (arith, at.1, length-set I.arcs (k - 1) row),
        ap (λ (a : ArcRow). a.tail) (sym was) ∙ sym change.tail ∙ ap (λ (a : ArcRow). a.tail) (sym here),
        ap (λ (a : ArcRow). a.head) (sym was) ∙ sym change.head ∙ ap (λ (a : ArcRow). a.head) (sym here),
      ),
      lawful_old,
    )
    (ap (λ (arcs : List ArcRow). record I { arcs = arcs }) (set-set I.arcs (k - 1) row old ∙ ap (λ (a : ArcRow). slice_set I.arcs (k - 1) a) (sym itself) ∙ set-get_or I.arcs (k - 1) old))

demand_back : (n : ℕ) (D : Demand) (v : ℕ) (x : ℤ) → kind_of D ≡ Min → with_supply (with_supply D v x) v (reduced_supply D v) ≡ D
demand_back n (Supplies s) v x kind = ap Supplies (set-set s (v - 1) x (at_node s v) ∙ set-get_or s (v - 1) (pos 0))
demand_back n _ v x kind = cc

kind_kept : (D : Demand) (v : ℕ) (x : ℤ) → kind_of (with_supply D v x) ≡ kind_of D
kind_kept D v x = grind arith

supply_within : (n : ℕ) (D : Demand) (v : ℕ) → kind_of D ≡ Min → DemandFits n D → (1 ≤ v) × (v ≤ n) → IsWithin SUPPLY_LIMIT (reduced_supply D v)
supply_within n (Supplies s) v kind fits node = All-get_or (IsWithin SUPPLY_LIMIT) s (v - 1) (pos 0) (omega (arith, fits.0, node.0, node.1)) fits.1
supply_within n _ v kind fits node = cc

pub supply_back : (I : Instance) (edit : Edit) (v : ℕ) (x old : ℤ) → IsLawful I → old ≡ reduced_supply I.demand v → IsSupplyEdit I edit v x → TakesBack I edit (Supply v old)
supply_back I edit v x old lawful is change =
    rw is (from_after I (supplied I v x) edit (Supply v (reduced_supply I.demand v)) change.after
    (kind_kept I.demand v x ∙ change.kind, change.node, supply_within I.nodes I.demand v change.kind lawful.demand change.node)
    (ap (λ (D : Demand). record I { demand = D }) (demand_back I.nodes I.demand v x change.kind)))

pub add_back : (I : Instance) (edit : Edit) (row : ArcRow) → IsAddEdit I edit row → TakesBack I edit Last
add_back I edit row change =
    let more = length-append I.arcs (row ∷ []) in
    let count : length (I.arcs ++ row ∷ []) - 1 ≡ length I.arcs = omega (arith, more) in
    from_after I (with_last I row) edit Last change.after (omega (arith, more))
    (ap (λ (arcs : List ArcRow). record I { arcs = arcs }) (ap (λ (n : ℕ). take n (I.arcs ++ row ∷ [])) count ∙ take-append_seam I.arcs (row ∷ [])))
