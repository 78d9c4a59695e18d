use Rattle.std.proofs.Common.{◌≡◌, length}
use Rattle.shortest_paths.specs.Search.{IsSearch, open_count}
use Rattle.shortest_paths.proofs.tree.Tree.search_levels.Given as goal

abbrev pub invariant-loop-v : goal.invariant-loop-v
invariant-loop-v l = length l.queue.entries ≡ length l.initial.queue.entries

abbrev pub invariant-loop-node : goal.invariant-loop-node
invariant-loop-node l = record {
  search : IsSearch l.graph.rows l.flow l.fn.self.labels l.predecessors;
  sized : length l.queue.entries ≡ length l.initial.queue.entries;
}

abbrev pub decreases-loop-node : goal.decreases-loop-node
decreases-loop-node l = open_count l.predecessors
