use Rattle.std.proofs.Common.{◌∙◌, ◌<◌, ◌++◌, ◌∷◌, [], ap, length, subst, sym}
use Rattle.dimacs_text.specs.Lawful.{IsLawfulRow}
use Rattle.network.specs.Instance.{ArcFits, Instance, IsLawful, reduced}
use Rattle.residual_graph.specs.Graph.{GraphView}
use Rattle.residual_graph.proofs.GraphLemmas.{is_graph, lawful_more, rows_more}
use Rattle.residual_graph.proofs.graph.Graph.push_arc.Goals as goal
use Rattle.residual_graph.proofs.graph.Graph.push_arc.Goals.{After-push_arc}

lawful : (c : After-push_arc) → IsLawful c.push_arc.new.self
lawful c =
    let row = c.args.row in
    let free = subst (λ (v : GraphView). length v.net.arcs < v.net.room) (sym c.self.view_is) c.requires.room in
    let limits = subst (λ (v : GraphView). IsLawfulRow v.net.nodes row) (sym c.self.view_is) c.requires.limits in
    let fits = subst (λ (v : GraphView). ArcFits v.net.demand row) (sym c.self.view_is) c.requires.fits in
    subst IsLawful (sym c.push_arc.ensures) (lawful_more c.self.inside.net row c.self.invariant free limits fits)

pub invariant_of-self : goal.invariant_of-self
invariant_of-self c = lawful (goal.at.invariant_of-self c).After-push_arc

pub returns-clause-rows : goal.returns-clause-rows
returns-clause-rows c =
    ap (λ (I : Instance). (reduced I).arcs) c.push_arc.ensures ∙ rows_more c.self.inside.net c.args.row ∙ ap (λ (v : GraphView). v.rows ++ c.args.row ∷ []) c.self.view_is

pub returns-clause-graph : goal.returns-clause-graph
returns-clause-graph c = is_graph _ (lawful (goal.at.returns-clause-graph c).After-push_arc)
