use Rattle.std.proofs.Common.{arith}
use Rattle.predecessors.proofs.LabelLemmas.{greatest_of}
use Rattle.predecessors.proofs.predecessor.are_traced.Goals as goal

pub returns-clause-traced : goal.returns-clause-traced
returns-clause-traced c = λ yes v lt. c.loop-v.invariant.traced v (omega (arith, lt, c.loop-v-test.false))

pub returns-clause-greatest : goal.returns-clause-greatest
returns-clause-greatest c = λ yes. greatest_of _ _ _ c.args.predecessors.now (λ v lt. c.loop-v.invariant.traced v (omega (arith, lt, c.loop-v-test.false)))
