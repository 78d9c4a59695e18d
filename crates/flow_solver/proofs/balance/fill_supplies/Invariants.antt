use Rattle.std.proofs.Common.{◌≡◌, ℕ, ◌<◌, w64}
use Rattle.std.specs.Int.{int_wrap}
use Rattle.network.specs.Instance.{reduced}
use Rattle.residual_graph.specs.Residual.{number_at}
use Rattle.augmentation.specs.Nodes.{held}
use Rattle.flow_solver.proofs.balance.fill_supplies.Given as goal

abbrev pub invariant-loop-v : goal.invariant-loop-v
invariant-loop-v l = (k : ℕ) → k < l.v → number_at l.excess k ≡ int_wrap w64 (held l.net.nodes (reduced l.net).supply k)
