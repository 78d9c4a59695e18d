use Rattle.std.proofs.Common.{◌≡◌, ◌≤◌, map, take, vec_capacity}
use Rattle.flow_solver.specs.Moment.{start}
use Rattle.flow_solver.proofs.start.flow_at_start.Given as goal

abbrev pub invariant-loop-row : goal.invariant-loop-row
invariant-loop-row l = record {
  flow : l.flow.items ≡ map start (take l.row-index l.rows);
  room : l.room ≤ vec_capacity l.flow;
}
