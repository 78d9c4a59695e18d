use Rattle.std.proofs.Common.{ℕ}
use Rattle.residual_graph.specs.declared.residual.Way.{Way}
use Rattle.residual_graph.specs.Walk.{HasCome, ends_left}
use Rattle.shortest_paths.specs.Progress.{HaveJoinedOn, IsServedOn}
use Rattle.shortest_paths.proofs.search.offer_from.Given as goal

abbrev pub invariant-loop-current : goal.invariant-loop-current
invariant-loop-current l = record {
  grown : HaveJoinedOn l.on l.initial.queue l.queue;
  come : HasCome l.on.graph.now l.node l.current (λ (k : ℕ). (way : Way) → IsServedOn l.on l.queue k way);
}

abbrev pub decreases-loop-current : goal.decreases-loop-current
decreases-loop-current l = ends_left l.current
