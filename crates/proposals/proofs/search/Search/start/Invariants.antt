use Rattle.std.proofs.Common.{◌≡◌, length}
use Rattle.proposals.proofs.search.Search.start.Given as goal

abbrev pub invariant-loop-v : goal.invariant-loop-v
invariant-loop-v l = record {
  records : length l.self-inside.records.items ≡ length l.initial.self-inside.records.items;
  reaches : l.self-inside.reaches ≡ l.initial.self-inside.reaches;
  frontier : l.self-inside.frontier ≡ l.initial.self-inside.frontier;
  order : l.self-inside.order ≡ l.initial.self-inside.order;
}
