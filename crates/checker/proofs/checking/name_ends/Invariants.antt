use Rattle.std.proofs.Common.{◌↔◌, ◌≡◌, length}
use Rattle.checker.specs.Check.{NameEnds}
use Rattle.checker.proofs.checking.name_ends.Given as goal

-- the answer is that for the arcs and lines still to come
abbrev pub invariant-loop-arc : goal.invariant-loop-arc
invariant-loop-arc l = record {
  same : NameEnds l.arcs l.lines ↔ NameEnds l.arc-iterator.a.rest.now l.arc-iterator.b.rest.now;
  long : length l.arc-iterator.a.rest.now ≡ length l.arc-iterator.b.rest.now;
}
