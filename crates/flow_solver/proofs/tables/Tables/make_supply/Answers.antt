use Rattle.std.proofs.Common.{◌∙◌, ℤ, ap, rules, w64}
use Rattle.std.proofs.lemmas.Int.{to_z-of_z}
use Rattle.network.specs.Instance.{IsLawful, at_node}
use Rattle.flow_solver.specs.Edit.{IsSupplyEdit}
use Rattle.flow_solver.proofs.ChangeLemmas.{supplied}
use Rattle.flow_solver.proofs.EditRows.{supply_made}
use Rattle.flow_solver.proofs.tables.Tables.make_supply.Goals as goal

pub returns : goal.returns
returns c =
    let m = c.args.self.now.moment in
    let id = c.edited_supply-id.result.0 in
    let value = c.edited_supply-id.result.1 in
    let lawful : IsLawful m.instance = rw (← c.self.view_is) c.self.invariant.graph.rows.lawful in
    let edit : IsSupplyEdit m.instance c.args.edit.now id value = rw (← c.self.view_is) (rw c.network.ensures at c.edited_supply-id.ensures) in
    let moment = c.swap_supply.ensures.moment ∙ ap (λ (z : ℤ). record m { instance = supplied m.instance id z }) (to_z-of_z w64 value (search rules)) in
    record {
      made = rw moment (supply_made m.instance c.args.edit.now id value (at_node m.potentials) m.flow lawful edit);
      certified = search rules;
      potentials = search rules;
      kept = search rules;
    }
