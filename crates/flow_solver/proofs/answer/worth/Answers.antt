use Rattle.std.proofs.Common.{◌∙◌, List, length, ap, sym, rules}
use Rattle.std.specs.Int.{w128}
use Rattle.std.proofs.lemmas.Int.{to_z-of_z}
use Rattle.dimacs_text.specs.declared.problem.ArcRow.{ArcRow}
use Rattle.flow_solver.proofs.AnswerLemmas.{worth_is_cost}
use Rattle.flow_solver.proofs.BalanceLemmas.{cost_exact}
use Rattle.residual_graph.proofs.Pseudoflows.{flow_of_instance}
use Rattle.flow_solver.proofs.answer.worth.Goals as goal

pub cost_now-requires-clause-as_many : goal.cost_now-requires-clause-as_many
cost_now-requires-clause-as_many c =
    ap (λ (r : List ArcRow). length r) c.requires.rows ∙ sym (flow_of_instance c.args.net.now c.args.flow.now.entries c.requires.lawful (rw c.requires.rows at c.requires.bounds)).same_length

pub returns-in-None : goal.returns-in-None
returns-in-None c =
    to_z-of_z w128 c.cost_now.result (search rules)
    ∙ cost_exact c.args.net.now c.args.rows.now c.args.flow.now.entries c.cost_now.result c.requires.lawful c.requires.rows c.requires.bounds c.cost_now.ensures
    ∙ sym (worth_is_cost c.args.net.now.demand c.args.rows.now c.args.flow.now.entries (sym c.return_arc.ensures.arc ∙ c.in-None.is))
