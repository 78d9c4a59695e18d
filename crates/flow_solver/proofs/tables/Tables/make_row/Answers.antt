use Rattle.std.proofs.Common.{◌≡◌, ◌∙◌, ◌-◌, ℤ, true, false, ap, subst, sym, rules, slice_set, w64, to_z, of_z}
use Rattle.std.proofs.lemmas.Int.{to_z-of_z}
use Rattle.network.specs.Flow.{IsGreatestPotential, reduced_cost}
use Rattle.network.specs.Instance.{Instance, at_node, reduced}
use Rattle.residual_graph.specs.Residual.{row_at, number_at}
use Rattle.flow_solver.specs.TablesView.{TablesView, flow_index}
use Rattle.flow_solver.specs.Edit.{IsCertifiedMoment, arc_flow, IsNearest, Makes, IsRowEdit, KeepsResidualArcs}
use Rattle.flow_solver.specs.Moment.{Moment}
use Rattle.residual_graph.proofs.GraphLemmas.{with_row}
use Rattle.flow_solver.proofs.ChangeLemmas.{certified_changed}
use Rattle.flow_solver.proofs.EditRows.{row_made}
use Rattle.flow_solver.proofs.StandingLemmas.{greatest_changed, tables_told}
use Rattle.flow_solver.proofs.tables.Tables.make_row.Goals as goal
use Rattle.flow_solver.proofs.tables.Tables.make_row.Goals.{After-swap_flow, then-self, else-self}

edit_is : (c : After-swap_flow) → IsRowEdit c.args.self.now.moment.instance c.args.edit.now c.edited_row-k.result.0 c.edited_row-k.result.1
edit_is c = subst (λ (b : TablesView). IsRowEdit b.moment.instance c.args.edit.now c.edited_row-k.result.0 c.edited_row-k.result.1) c.self.view_is
    (subst (λ (I : Instance). IsRowEdit I c.args.edit.now c.edited_row-k.result.0 c.edited_row-k.result.1) c.network.ensures c.edited_row-k.ensures)

-- the flow that the arc gets
abbrev after : After-swap_flow → ℤ
after c = c.nearest_flow-flow.result

near : (c : After-swap_flow) → IsNearest c.edited_row-k.result.1 (reduced_cost (at_node c.args.self.now.moment.potentials) c.edited_row-k.result.1) (arc_flow c.args.self.now.moment c.edited_row-k.result.0) (after c)
near c = rw (to_z-of_z w64 c.flow_of-before.result (search rules), c.flow_of-before.ensures) at c.nearest_flow-flow.ensures

moment_is : (c : After-swap_flow) → c.swap_flow.new.self.moment ≡ record c.args.self.now.moment { instance = with_row c.args.self.now.moment.instance (c.edited_row-k.result.0 - 1) c.edited_row-k.result.1; flow = slice_set c.args.self.now.moment.flow (flow_index c.args.self.now.moment.instance.demand c.edited_row-k.result.0) (after c) }
moment_is c =
    let m = c.args.self.now.moment in
    let k = c.edited_row-k.result.0 in
    let J = with_row m.instance (k - 1) c.edited_row-k.result.1 in
    let flow = to_z-of_z w64 (after c) (search rules) in
    c.swap_flow.ensures.moment
    ∙ ap (λ (n : Moment). record n { flow = slice_set n.flow (flow_index n.instance.demand k) (to_z w64 (of_z w64 (after c))) }) c.swap_row.ensures.moment
    ∙ ap (λ (z : ℤ). record m { instance = J; flow = slice_set m.flow (flow_index m.instance.demand k) z }) flow

pub invariant_of-self : goal.invariant_of-self
invariant_of-self c =
    let m = c.args.self.now.moment in
    let t = c.self-2.inside in
    let s = (goal.at.invariant_of-self c).After-swap_flow in
    let now = ap (λ (d : TablesView). d.moment) c.self-2.view_is ∙ moment_is s in
    tables_told t.graph t.flow t.potentials t.balance t.cut t.scratch t.before c.if-self.stands c.self-2.invariant (λ stands.
    elim c.if-self.branch [
      | then-self w ↦ subst (λ (n : Moment). IsGreatestPotential (reduced n.instance) n.flow (at_node n.potentials)) (sym now)
          (greatest_changed m.instance c.edited_row-k.result.0 c.edited_row-k.result.1 (at_node m.potentials) m.flow (after s) (edit_is s).arc (edit_is s).tail (edit_is s).head
          (λ tight. subst (λ (y : ℤ). KeepsResidualArcs (row_at (reduced m.instance).arcs (flow_index m.instance.demand c.edited_row-k.result.0)) (number_at m.flow (flow_index m.instance.demand c.edited_row-k.result.0)) c.edited_row-k.result.1 y)
          (to_z-of_z w64 (after s) (search rules)) (w.keeps_greatest-stands.ensures (sym w.stands-is ∙ stands) tight)) c.requires.can.certified
          (subst (λ (b : TablesView). IsGreatestPotential (reduced b.moment.instance) b.moment.flow (at_node b.moment.potentials)) c.self.view_is (c.self.invariant.told w.if-self.true)))
      | else-self w ↦ (let wrong : false ≡ true = sym w.if-self.false ∙ sym w.stands-is ∙ stands in cc)
    ])

pub returns : goal.returns
returns c =
    let m = c.args.self.now.moment in
    let s = (goal.at.returns c).After-swap_flow in
    let now = ap (λ (d : TablesView). d.moment) c.self-2.view_is ∙ moment_is s in
    let both = subst (λ (n : Moment). Makes c.args.edit.now m n × IsCertifiedMoment n) (sym now) (
      row_made m.instance c.args.edit.now c.edited_row-k.result.0 c.edited_row-k.result.1 (at_node m.potentials) m.flow (after s) c.requires.can.certified (edit_is s) (near s),
      certified_changed m.instance c.edited_row-k.result.0 c.edited_row-k.result.1 (at_node m.potentials) m.flow (after s) (edit_is s).arc.0 c.requires.can.certified (near s),
    ) in
    record { made = both.0; certified = both.1; potentials = search rules; kept = search rules }
