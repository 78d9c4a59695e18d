use Rattle.std.proofs.Common.{◌≡◌, drop}
use Rattle.engines.specs.Printing.{flow_lines}
use Rattle.engines.proofs.PrintingLemmas.{Wrote}
use Rattle.engines.proofs.solution.write_flows.Given as goal

abbrev pub invariant-loop-place : goal.invariant-loop-place
invariant-loop-place g l = record {
  wrote : Wrote (g.O.Sink.contents l.fn.out) (g.O.Sink.contents l.out) (flow_lines l.net.arcs l.flow) (flow_lines (drop l.place l.net.arcs) (drop l.place l.flow));
  failures : g.O.Sink.failures l.out ≡ g.O.Sink.failures l.fn.out;
  flushes : g.O.Sink.flushes l.out ≡ g.O.Sink.flushes l.fn.out;
}
