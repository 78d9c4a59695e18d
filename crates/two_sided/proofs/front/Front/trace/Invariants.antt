use Rattle.std.proofs.Common.{◌≡◌, ◌<◌}
use Rattle.two_sided.proofs.front.Front.trace.Given as goal

abbrev pub invariant-loop : goal.invariant-loop
invariant-loop l = record {
  labels : l.self-inside.labels ≡ l.initial.self-inside.labels;
  frontier : l.self-inside.frontier ≡ l.initial.self-inside.frontier;
  late : l.self-inside.late ≡ l.initial.self-inside.late;
  beyond : l.self-inside.beyond ≡ l.initial.self-inside.beyond;
  margins : l.self-inside.margins ≡ l.initial.self-inside.margins;
  node : l.u < l.fn.self;
}
