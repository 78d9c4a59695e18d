use Rattle.std.proofs.Common.{rules, w64}
use Rattle.std.proofs.lemmas.Int.{to_z-of_z}
use Rattle.flow_solver.proofs.LogLemmas.{supply_found, supply_passed}
use Rattle.flow_solver.proofs.part.supply_before.Goals as goal

pub loop-i-preserved-then-node-id : goal.loop-i-preserved-then-node-id
loop-i-preserved-then-node-id c =
    let value = c.in-Supply.value in
    let found = supply_found c.args.id c.loop-i.i value c.args.log.now _ c.args.net.now c.loop-i.supply c.nodes.ensures.lawful c.requires c.loop-i-test.true (rw c.if-node-id.true at c.in-Supply.is) c.loop-i.invariant in
    rw (to_z-of_z w64 value (search rules)) found

pub loop-i-preserved-else-node-id : goal.loop-i-preserved-else-node-id
loop-i-preserved-else-node-id c =
    supply_passed c.args.id c.in-Supply.node c.loop-i.i c.in-Supply.value c.args.log.now _ c.args.net.now c.loop-i.supply c.if-node-id.false c.requires c.loop-i-test.true c.in-Supply.is c.loop-i.invariant
