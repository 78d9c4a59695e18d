use Rattle.std.proofs.Common.{◌≡◌}
use Rattle.proposals.proofs.tables.Proposals.note_all.Given as goal

abbrev pub invariant-loop-k : goal.invariant-loop-k
invariant-loop-k l = record {
  proposal : l.self-inside.proposal ≡ l.initial.self-inside.proposal;
  ring : l.self-inside.ring ≡ l.initial.self-inside.ring;
  sets : l.self-inside.sets ≡ l.initial.self-inside.sets;
  search : l.self-inside.search ≡ l.initial.self-inside.search;
}
