use Rattle.std.proofs.Common.{◌≡◌}
use Rattle.proposals.proofs.home.give_back.Given as goal

abbrev pub invariant-loop-v : goal.invariant-loop-v
invariant-loop-v g l = record {
  proposal : l.proposal ≡ l.initial.proposal;
  records : l.search-inside.records ≡ l.initial.search-inside.records;
  reaches : l.search-inside.reaches ≡ l.initial.search-inside.reaches;
  frontier : l.search-inside.frontier ≡ l.initial.search-inside.frontier;
  order : l.search-inside.order ≡ l.initial.search-inside.order;
}

abbrev pub invariant-loop-v-2 : goal.invariant-loop-v-2
invariant-loop-v-2 g l = l.proposal ≡ l.initial.proposal
