use Rattle.network.proofs.Reduction.{reduced_ends}
use Rattle.network.proofs.Network.nodes.Goals as goal

pub returns-clause-ends : goal.returns-clause-ends
returns-clause-ends c = reduced_ends c.args.self.now (rw c.self.view_is at c.self.invariant.lawful)
