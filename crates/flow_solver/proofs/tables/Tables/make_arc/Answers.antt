use Rattle.std.proofs.Common.{◌≡◌, ◌∙◌, ◌++◌, ◌∷◌, [], ℤ, ap, subst, sym, rules, w64}
use Rattle.std.proofs.lemmas.Int.{to_z-of_z}
use Rattle.network.specs.Edited.{with_last}
use Rattle.network.specs.Flow.{IsGreatestPotential}
use Rattle.network.specs.Instance.{at_node, reduced}
use Rattle.flow_solver.specs.Edit.{IsAddEdit, IsCertifiedMoment, Makes}
use Rattle.flow_solver.specs.Moment.{Moment}
use Rattle.flow_solver.specs.TablesView.{TablesView}
use Rattle.flow_solver.proofs.ChangeLemmas.{certified_more}
use Rattle.flow_solver.proofs.EditRows.{add_made}
use Rattle.flow_solver.proofs.StandingLemmas.{greatest_more, tables_told}
use Rattle.flow_solver.proofs.tables.Tables.make_arc.Goals as goal
use Rattle.flow_solver.proofs.tables.Tables.make_arc.Goals.{After-put_last}

-- the flow that the new arc gets
abbrev after : After-put_last → ℤ
after c = c.nearest_flow-flow.result

moment_is : (c : After-put_last) → c.put_last.new.self.moment ≡ record c.args.self.now.moment { instance = with_last c.args.self.now.moment.instance c.added_row-row.result; flow = c.args.self.now.moment.flow ++ after c ∷ [] }
moment_is c =
    let m = c.args.self.now.moment in
    let flow = to_z-of_z w64 (after c) (search rules) in
    c.put_last.ensures.moment ∙ ap (λ (z : ℤ). record m { instance = with_last m.instance c.added_row-row.result; flow = m.flow ++ z ∷ [] }) flow

pub invariant_of-self : goal.invariant_of-self
invariant_of-self c =
    let m = c.args.self.now.moment in
    let t = c.self-2.inside in
    let s = (goal.at.invariant_of-self c).After-put_last in
    let now = ap (λ (d : TablesView). d.moment) c.self-2.view_is ∙ moment_is s in
    tables_told t.graph t.flow t.potentials t.balance t.cut t.scratch t.before _ c.self-2.invariant (λ stood.
    subst (λ (n : Moment). IsGreatestPotential (reduced n.instance) n.flow (at_node n.potentials)) (sym now)
    (greatest_more m.instance c.added_row-row.result (at_node m.potentials) m.flow (after s) c.requires.can.certified
    (subst (λ (b : TablesView). IsGreatestPotential (reduced b.moment.instance) b.moment.flow (at_node b.moment.potentials)) c.self.view_is (c.self.invariant.told stood))))

pub returns : goal.returns
returns c =
    let m = c.args.self.now.moment in
    let row = c.added_row-row.result in
    let s = (goal.at.returns c).After-put_last in
    let now = ap (λ (d : TablesView). d.moment) c.self-2.view_is ∙ moment_is s in
    let edit : IsAddEdit m.instance c.args.edit.now row = rw (← c.self.view_is) (rw c.network.ensures at c.added_row-row.ensures) in
    let both = subst (λ (n : Moment). Makes c.args.edit.now m n × IsCertifiedMoment n) (sym now) (
      add_made m.instance c.args.edit.now row (at_node m.potentials) m.flow (after s) c.requires.can.certified edit c.nearest_flow-flow.ensures,
      certified_more m.instance row (at_node m.potentials) m.flow (after s) c.requires.can.certified c.nearest_flow-flow.ensures,
    ) in
    record { made = both.0; certified = both.1; potentials = search rules; kept = search rules }
