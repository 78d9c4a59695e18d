use Rattle.std.proofs.Common.{◌≡◌, ◌∙◌, ◌+◌, ◌-◌, ℕ, ℤ, List, ap, arith, drop, length}
use Rattle.std.proofs.lemmas.Grind.{common_steps}
use Rattle.std.proofs.lemmas.List.{length-drop, take_all}
use Rattle.dimacs_text.specs.declared.problem.ArcRow.{ArcRow}
use Rattle.network.specs.Instance.{Demand, reduced_arcs}
use Rattle.network.specs.Rows.{return_arcs}
use Rattle.flow_solver.specs.Moment.{arc_flows}
use Rattle.flow_solver.specs.TablesView.{TablesView}
use Rattle.flow_solver.proofs.TablesViewLemmas.{numbered_is}
use Rattle.flow_solver.proofs.tables.Tables.flow.Goals as goal

counted : (D : Demand) (arcs : List ArcRow) (n : ℕ) → n + length arcs ≡ length (reduced_arcs D arcs) → n ≡ return_arcs D
counted D arcs n split = grind arith

pub returns-clause-value : goal.returns-clause-value
returns-clause-value c =
    let t = c.self.inside in
    let n = c.return_arcs.result in
    let x = c.entries.result.now in
    let front = counted t.graph.net.demand t.graph.net.arcs n (c.return_arcs.ensures ∙ ap length c.self.invariant.graph.rows.rows_are) in
    take_all (length x - n) (drop n x) (omega (arith, length-drop n x)) ∙ ap (λ (xs : List ℤ). drop n xs) c.entries.ensures ∙ ap (λ (k : ℕ). drop k t.flow.entries) front
    ∙ numbered_is t.graph.net.demand t.flow.entries ∙ ap (λ (d : TablesView). arc_flows d.moment) c.self.view_is

pub returns-clause-one_an_arc : goal.returns-clause-one_an_arc
returns-clause-one_an_arc c = grind (arith, common_steps)
