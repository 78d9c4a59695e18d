use Rattle.std.proofs.Common.{◌≡◌, length, ap, refl, to_z, of_z, arith}
use Rattle.std.proofs.lemmas.Int.{ints}
use mir.Syntax.{w64}
use Rattle.dimacs_text.specs.Lawful.{IsLawfulRow}
use Rattle.network.specs.Flow.{FollowsSign}
use Rattle.network.specs.Instance.{at_node}
use Rattle.network.proofs.Places.{all_zip-length, all_zip-step, answered_no, All-step}
use Rattle.network.proofs.signs.follows_signs.Goals as goal

pub returns-then-arcs-flow : goal.returns-then-arcs-flow
returns-then-arcs-flow c = answered_no (λ all. c.if-arcs-flow.true (all_zip-length (FollowsSign (at_node c.args.potentials.now)) _ _ all))

pub loop-arc-preserved : goal.loop-arc-preserved
loop-arc-preserved c =
    let steps = c.in-Some.ensures.steps in
    let back : to_z w64 (of_z w64 c.in-Some.x.now) ≡ c.in-Some.x.now = omega (arith, ints) in
    let says = rw back at c.if-not-follows_sign.ensures in
    record {
      same = all_zip-step (FollowsSign (at_node c.args.potentials.now)) _ _ _ _ _ _ _ c.loop-arc.invariant.same steps.0 steps.1 (says.0 refl);
      long = let l = c.loop-arc.invariant.long in let a = ap length steps.0 in let b = ap length steps.1 in omega arith;
      limits = (All-step (IsLawfulRow (length c.args.potentials.now)) _ _ _ steps.0 c.loop-arc.invariant.limits).1;
    }
