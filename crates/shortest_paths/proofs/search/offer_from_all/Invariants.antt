use Rattle.std.proofs.Common.{ℕ, ◌<◌}
use Rattle.residual_graph.specs.declared.residual.Way.{Way}
use Rattle.residual_graph.specs.Residual.{start_at}
use Rattle.shortest_paths.specs.Progress.{HaveJoinedOn, IsServedOn}
use Rattle.shortest_paths.proofs.search.offer_from_all.Given as goal

abbrev pub invariant-loop-v : goal.invariant-loop-v
invariant-loop-v l = record {
  grown : HaveJoinedOn l.on l.initial.queue l.queue;
  served : (k : ℕ) (way : Way) → start_at l.on.graph.now.rows k way < l.v → IsServedOn l.on l.queue k way;
}
