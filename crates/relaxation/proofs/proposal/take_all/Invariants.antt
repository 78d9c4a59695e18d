use Rattle.std.proofs.Common.{◌≡◌, length}
use Rattle.relaxation.specs.Links.{AreWithin}
use Rattle.relaxation.proofs.proposal.take_all.Given as goal

abbrev pub invariant-loop-block : goal.invariant-loop-block
invariant-loop-block l = record { same_length : length l.table ≡ length l.initial.table; within : AreWithin l.limit l.table }

abbrev pub invariant-loop-v : goal.invariant-loop-v
invariant-loop-v l = record { same_length : length l.table ≡ length l.initial.table; within : AreWithin l.limit l.table }
