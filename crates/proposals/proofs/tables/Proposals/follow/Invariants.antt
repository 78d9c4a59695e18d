use Rattle.std.proofs.Common.{◌≡◌}
use Rattle.proposals.proofs.tables.Proposals.follow.Given as goal

abbrev pub invariant-loop-change : goal.invariant-loop-change
invariant-loop-change l = record {
  proposal : l.self-inside.proposal ≡ l.initial.self-inside.proposal;
  ring : l.self-inside.ring ≡ l.initial.self-inside.ring;
  sets : l.self-inside.sets ≡ l.initial.self-inside.sets;
  search : l.self-inside.search ≡ l.initial.self-inside.search;
}
