use Rattle.std.proofs.Common.{◌≤◌, drop, length}
use Rattle.flow_solver.specs.Part.{before_all}
use Rattle.flow_solver.proofs.LogLemmas.{IsArcAt}
use Rattle.flow_solver.proofs.part.row_before.Given as goal

abbrev pub invariant-loop-i : goal.invariant-loop-i
invariant-loop-i l = record {
  inside : l.i ≤ length l.log;
  arc : IsArcAt l.k (before_all (drop l.i l.log) l.net) l.row l.arcs;
}

abbrev pub decreases-loop-i : goal.decreases-loop-i
decreases-loop-i l = l.i
