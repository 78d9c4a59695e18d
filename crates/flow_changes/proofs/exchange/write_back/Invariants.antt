use Rattle.std.proofs.Common.{◌≡◌, ◌-◌, length, take}
use Rattle.flow_changes.specs.Exchange.{flow_before}
use Rattle.tracked.specs.Tracked.{IsWritten}
use Rattle.flow_changes.proofs.exchange.write_back.Given as goal

abbrev pub invariant-loop-done : goal.invariant-loop-done
invariant-loop-done l = record {
  written : IsWritten l.initial.flow l.flow;
  left : flow_before (take (length l.changes - l.done) l.changes) l.flow.entries ≡ flow_before l.changes l.initial.flow.entries;
}
