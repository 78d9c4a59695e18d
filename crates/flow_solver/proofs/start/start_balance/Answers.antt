use Rattle.std.proofs.Common.{◌∙◌, ◌+◌, ap, sym}
use Rattle.network.specs.Instance.{Instance}
use Rattle.flow_solver.proofs.CarryLemmas.{ends_of_rows}
use Rattle.flow_solver.proofs.start.start_balance.Goals as goal

pub new-requires-clause-ends : goal.new-requires-clause-ends
new-requires-clause-ends c = rw c.network-2.ensures (ends_of_rows c.args.graph.now.net c.rows-2.result.now c.requires.rows.lawful (c.rows-2.ensures ∙ c.requires.rows.rows_are))

pub returns-clause-balance : goal.returns-clause-balance
returns-clause-balance c =
    let made = c.in_ok-balance.ensures in
    let kept = c.entries.ensures ∙ c.in_ok-flow.ensures.entries ∙ sym c.in_ok-flow.ensures.whole in
    record {
      sized = made.sized ∙ ap (λ (J : Instance). J.nodes + 1) c.network-2.ensures;
      excess = rw c.rows-2.ensures at (rw c.entries.ensures at (rw c.network-2.ensures at made.excess));
      cost = rw c.rows-2.ensures at (rw kept at made.cost);
    }
