use Rattle.std.proofs.Common.{◌≡◌, ◌+◌, drop}
use Rattle.engines.specs.Printing.{cut_lines}
use Rattle.engines.proofs.PrintingLemmas.{Wrote}
use Rattle.engines.proofs.solution.write_cut.Given as goal

abbrev pub invariant-loop-place : goal.invariant-loop-place
invariant-loop-place g l = record {
  wrote : Wrote (g.O.Sink.contents l.fn.out) (g.O.Sink.contents l.out) (cut_lines 1 l.marks) (cut_lines (l.place + 1) (drop l.place l.marks));
  failures : g.O.Sink.failures l.out ≡ g.O.Sink.failures l.fn.out;
  flushes : g.O.Sink.flushes l.out ≡ g.O.Sink.flushes l.fn.out;
}
