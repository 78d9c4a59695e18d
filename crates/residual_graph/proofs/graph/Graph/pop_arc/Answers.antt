use Rattle.std.proofs.Common.{◌∙◌, ap, subst, sym}
use Rattle.network.specs.Instance.{Instance, IsLawful, reduced}
use Rattle.residual_graph.specs.Graph.{GraphView}
use Rattle.residual_graph.proofs.GraphLemmas.{is_graph, lawful_less, rows_more}
use Rattle.residual_graph.proofs.graph.Graph.pop_arc.Goals as goal
use Rattle.residual_graph.proofs.graph.Graph.pop_arc.Goals.{After-pop_arc}

lawful : (c : After-pop_arc) → IsLawful c.pop_arc.new.self
lawful c = lawful_less c.pop_arc.new.self c.pop_arc.result (subst IsLawful c.pop_arc.ensures c.self.invariant)

pub invariant_of-self : goal.invariant_of-self
invariant_of-self c = lawful c

pub returns-clause-rows : goal.returns-clause-rows
returns-clause-rows c =
    sym (ap (λ (v : GraphView). v.rows) c.self.view_is) ∙ ap (λ (I : Instance). (reduced I).arcs) c.pop_arc.ensures ∙ rows_more c.pop_arc.new.self c.pop_arc.result

pub returns-clause-graph : goal.returns-clause-graph
returns-clause-graph c = is_graph _ (lawful c)
