use Rattle.std.proofs.Common.{◌≡◌, length, take}
use Rattle.flow_changes.specs.Exchange.{AreChanged, IsLed, flow_before}
use Rattle.tracked.specs.Tracked.{IsWritten}
use Rattle.flow_changes.proofs.exchange.change_arcs.Given as goal

abbrev pub invariant-loop-j : goal.invariant-loop-j
invariant-loop-j l = record {
  written : IsWritten l.initial.flow l.flow;
  led : IsLed l.initial.journal l.journal l.initial.excess l.excess;
  as_many : length l.changes.items ≡ length l.initial.changes.items;
  before : flow_before (take l.j l.changes.items) l.flow.entries ≡ l.initial.flow.entries;
  changed : AreChanged l.graph.rows l.ranks l.initial.flow.entries l.initial.excess l.flow.entries l.excess;
}
