use Rattle.std.proofs.Common.{◌↔◌, ◌≡◌, All, length}
use Rattle.std.specs.List.{AllZip}
use Rattle.dimacs_text.specs.Lawful.{IsLawfulRow}
use Rattle.network.specs.Flow.{FollowsSign}
use Rattle.network.specs.Instance.{at_node}
use Rattle.network.proofs.signs.follows_signs.Given as goal

-- the answer is that for the arcs and flows still to come
abbrev pub invariant-loop-arc : goal.invariant-loop-arc
invariant-loop-arc l = record {
  same : AllZip (FollowsSign (at_node l.potentials)) l.arcs l.flow ↔ AllZip (FollowsSign (at_node l.potentials)) l.arc-iterator.a.rest.now l.arc-iterator.b.rest.now;
  long : length l.arc-iterator.a.rest.now ≡ length l.arc-iterator.b.rest.now;
  limits : All (IsLawfulRow (length l.potentials)) l.arc-iterator.a.rest.now;
}
