use Rattle.std.proofs.Common.{◌≡◌, length}
use Rattle.proposals.proofs.search.Search.take_long_paths.Given as goal

abbrev pub invariant-loop-v : goal.invariant-loop-v
invariant-loop-v g l = record {
  records : l.self-inside.records ≡ l.initial.self-inside.records;
  reaches : length l.self-inside.reaches.items ≡ length l.initial.self-inside.reaches.items;
  frontier : l.self-inside.frontier ≡ l.initial.self-inside.frontier;
  order : l.self-inside.order ≡ l.initial.self-inside.order;
}

abbrev pub invariant-loop-k : goal.invariant-loop-k
invariant-loop-k g l = l.self ≡ l.initial.self
