use Rattle.std.proofs.Common.{◌≡◌}
use Rattle.two_sided.proofs.between.Between.push_in_pairs.Given as goal

abbrev pub invariant-loop : goal.invariant-loop
invariant-loop l = record { between : l.self ≡ l.initial.self; proposal : l.proposal ≡ l.initial.proposal }
