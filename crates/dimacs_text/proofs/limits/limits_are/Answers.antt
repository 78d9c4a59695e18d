use Rattle.std.proofs.Common.{rules}
use Rattle.dimacs_text.proofs.limits.limits_are.Goals as goal

pub returns-clause-arcs : goal.returns-clause-arcs
returns-clause-arcs c = search rules

pub returns-clause-cap : goal.returns-clause-cap
returns-clause-cap c = search rules

pub returns-clause-group : goal.returns-clause-group
returns-clause-group c = search rules

pub returns-clause-cost : goal.returns-clause-cost
returns-clause-cost c = search rules

pub returns-clause-nodes : goal.returns-clause-nodes
returns-clause-nodes c = search rules

pub returns-clause-supply : goal.returns-clause-supply
returns-clause-supply c = search rules
