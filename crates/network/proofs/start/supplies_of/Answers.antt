use Rattle.std.proofs.Common.{◌≡◌, ◌-◌, ◌≤◌, length, pos, get_or, to_z, of_z, ◌∙◌, sym, arith, length-set}
use mir.Syntax.{w64}
use Rattle.std.proofs.lemmas.Int.{ints}
use Rattle.std.proofs.lemmas.List.{drop_all, get_or_default}
use Rattle.dimacs_text.specs.declared.problem.NodeMark.{NodeMark}
use Rattle.dimacs_text.specs.declared.problem.NodeMark.TheVariants.{Supply}
use Rattle.dimacs_text.specs.Problem.{node_of}
use Rattle.network.specs.Instance.{at_node}
use Rattle.network.specs.Start.{supply_or}
use Rattle.network.proofs.Opening.{by_node-from_entries, at_node-set, supply_or-step}
use Rattle.network.proofs.start.supplies_of.Goals as goal

no_mark : NodeMark
no_mark = Supply 0 (pos 0)

pub loop-mark-preserved : goal.loop-mark-preserved
unfolding no_mark
loop-mark-preserved c =
    let back : to_z w64 (of_z w64 c.marked_supply.result) ≡ c.marked_supply.result = omega (arith, ints) in
    let old : to_z w64 (of_z w64 c.args.unmarked) ≡ c.args.unmarked = omega (arith, ints, c.ranges.unmarked.sfits) in
    let node = c.requires.nodes c.loop-mark.mark-index no_mark c.loop-mark-test.true in
    let len = c.loop-mark.invariant.len in
    let high : node_of (get_or c.args.marks.now c.loop-mark.mark-index no_mark) ≤ length c.loop-mark.supplies.items = omega (arith, node.1, len) in
    let told = rw old at c.loop-mark.invariant.told in
    rw (back, old, c.marked_supply.ensures, c.node.ensures) (record {
      len = length-set c.loop-mark.supplies.items _ _ ∙ len;
      told = λ v least most.
          rw (at_node-set c.loop-mark.supplies.items _ v _ node.0 high least)
          (sym (supply_or-step c.args.marks.now c.loop-mark.mark-index no_mark v (at_node c.loop-mark.supplies.items v) c.requires.once c.loop-mark-test.true) ∙ told v least most);
    })

pub returns : goal.returns
returns c =
    let len = c.loop-mark.invariant.len in
    let old : to_z w64 (of_z w64 c.args.unmarked) ≡ c.args.unmarked = omega (arith, ints, c.ranges.unmarked.sfits) in
    let none = drop_all c.loop-mark.mark-index c.args.marks.now c.loop-mark-test.false in
    let told = rw old at c.loop-mark.invariant.told in
    by_node-from_entries c.loop-mark.supplies.items c.args.nodes (λ v. supply_or c.args.marks.now v c.args.unmarked) len (λ v d least most.
    get_or_default c.loop-mark.supplies.items (v - 1) d (pos 0) (omega arith) ∙ rw none at (told v least most))
