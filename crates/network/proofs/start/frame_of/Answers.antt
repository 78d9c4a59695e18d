use Rattle.std.proofs.Common.{◌≡◌, to_z, of_z, arith}
use Rattle.std.proofs.lemmas.Int.{ints}
use mir.Syntax.{w64}
use Rattle.network.specs.Instance.{first}
use Rattle.network.proofs.Opening.{is_start, instance_is, made}
use Rattle.network.proofs.start.frame_of.Goals as goal

items : (c : goal.After-min) → c.in_ok-supplies.supplies.items ≡ made c.args.problem.now
items c =
    let back : to_z w64 (of_z w64 c.unmarked_supply.result) ≡ c.unmarked_supply.result = omega (arith, ints) in
    rw (← c.nodes.ensures.value, ← c.kind-kind.ensures, ← c.unmarked_supply.ensures, ← c.marks-marks.ensures) (rw back at c.in_ok-supplies.ensures)

room : (c : goal.After-min) → c.min.result ≡ (first c.args.problem.now c.args.extra).room
room c = rw (← c.arcs.ensures) c.min.ensures

pub returns-clause-begins : goal.returns-clause-begins
returns-clause-begins c =
    rw (items c, room c, c.goal_of.ensures, c.kind-kind.ensures, c.marks-marks.ensures) (is_start c.args.problem.now c.args.extra c.nodes.ensures.lawful)

pub returns-clause-instance : goal.returns-clause-instance
returns-clause-instance c =
    rw (c.in_ok-supplies.supplies.ok.0, items c, room c, c.goal_of.ensures, c.kind-kind.ensures, c.marks-marks.ensures)
    (instance_is c.args.problem.now c.args.extra c.nodes.ensures.lawful)
