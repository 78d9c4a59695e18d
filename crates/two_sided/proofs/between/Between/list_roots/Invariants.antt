use Rattle.std.proofs.Common.{◌≡◌}
use Rattle.two_sided.proofs.between.Between.list_roots.Given as goal

abbrev pub invariant-loop-v : goal.invariant-loop-v
invariant-loop-v l = record {
  ahead : l.self-inside.ahead ≡ l.initial.self-inside.ahead;
  behind : l.self-inside.behind ≡ l.initial.self-inside.behind;
  sources : l.self-inside.sources ≡ l.initial.self-inside.sources;
  sinks : l.self-inside.sinks ≡ l.initial.self-inside.sinks;
}
