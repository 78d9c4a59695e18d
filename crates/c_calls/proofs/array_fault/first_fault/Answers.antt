use Rattle.std.proofs.Common.{length, sym}
use Rattle.c_calls.proofs.ArrayLemmas.{counts_within}
use Rattle.c_calls.proofs.array_fault.first_fault.Goals as goal

pub faulty_node-requires : goal.faulty_node-requires
faulty_node-requires c = (counts_within (length c.args.arrays.now.supply.now) (length c.args.arrays.now.tail.now) (sym c.in_default.ensures)).1

pub faulty_arc-requires-clause-count : goal.faulty_arc-requires-clause-count
faulty_arc-requires-clause-count c =
    (counts_within (length c.args.arrays.now.supply.now) (length c.args.arrays.now.tail.now) (sym c.in_default.ensures)).2
