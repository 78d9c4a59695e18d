use Rattle.std.proofs.Common.{length, arith}
use Rattle.c_calls.proofs.ArrayLemmas.{counts_within, is_problem}
use Rattle.c_calls.proofs.arrays.problem_of.Goals as goal

pub overflow_cast-size : goal.overflow_cast-size
overflow_cast-size c =
    let counts = counts_within (length c.args.arrays.now.supply.now) (length c.args.arrays.now.tail.now) c.requires.faultless.counts in
    omega (arith, counts)

pub overflow_cast-size-2 : goal.overflow_cast-size-2
overflow_cast-size-2 c =
    let counts = counts_within (length c.args.arrays.now.supply.now) (length c.args.arrays.now.tail.now) c.requires.faultless.counts in
    omega (arith, counts)

pub marks_of-requires : goal.marks_of-requires
marks_of-requires c = (counts_within (length c.args.arrays.now.supply.now) (length c.args.arrays.now.tail.now) c.requires.faultless.counts).1

pub new-requires : goal.new-requires
new-requires c = rw (c.in_ok-marks.ensures, c.in_ok-rows.ensures) (is_problem c.args.arrays.now c.requires.faultless)
