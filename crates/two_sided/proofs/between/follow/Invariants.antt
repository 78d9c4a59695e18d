use Rattle.std.proofs.Common.{◌≡◌}
use Rattle.two_sided.proofs.between.follow.Given as goal

abbrev pub invariant-loop-k : goal.invariant-loop-k
invariant-loop-k l = record {
  ahead : l.ahead ≡ l.initial.ahead;
  behind : l.behind ≡ l.initial.behind;
  proposal : l.proposal ≡ l.initial.proposal;
}
