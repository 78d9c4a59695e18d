use Rattle.std.proofs.Common.{◌≡◌}
use Rattle.proposals.proofs.parted.mark_sides.Given as goal

abbrev pub invariant-loop-v : goal.invariant-loop-v
invariant-loop-v l = record {
  ends : l.proposal-inside.ends ≡ l.initial.proposal-inside.ends;
  rests : l.proposal-inside.rests ≡ l.initial.proposal-inside.rests;
  potentials : l.proposal-inside.potentials ≡ l.initial.proposal-inside.potentials;
}
