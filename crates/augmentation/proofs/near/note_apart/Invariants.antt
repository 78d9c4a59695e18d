use Rattle.std.proofs.Common.{◌≡◌}
use Rattle.augmentation.proofs.near.note_apart.Given as goal

abbrev pub invariant-loop-v : goal.invariant-loop-v
invariant-loop-v l = l.proposals ≡ l.initial.proposals
