use Rattle.std.proofs.Common.{◌≡◌, ◌*◌, ◌<◌, length}
use Rattle.std.specs.Prelude.{IfSome}
use Rattle.residual_graph.specs.Walk.{ends_left}
use Rattle.shortest_paths.proofs.levels.offer_levels_from.Given as goal

abbrev pub invariant-loop-current : goal.invariant-loop-current
invariant-loop-current l = record {
  sized : length l.queue.entries ≡ length l.initial.queue.entries;
  stands : IfSome l.current (λ end. end < 2 * length l.on.graph.now.rows);
}

abbrev pub decreases-loop-current : goal.decreases-loop-current
decreases-loop-current l = ends_left l.current
