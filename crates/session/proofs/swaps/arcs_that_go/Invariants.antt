use Rattle.std.proofs.Common.{◌≡◌, ◌≤◌, ◌+◌, drop}
use Rattle.session.specs.Parts.{named}
use Rattle.session.proofs.swaps.arcs_that_go.Given as goal

abbrev pub invariant-loop-part : goal.invariant-loop-part
invariant-loop-part l = record {
  counted : l.go + (named (drop l.part-index l.parts)).go ≡ (named l.parts).go;
  few : l.go ≤ l.part-index;
}
