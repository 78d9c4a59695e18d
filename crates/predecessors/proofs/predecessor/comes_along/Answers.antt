use Rattle.std.proofs.Common.{arith}
use Rattle.std.proofs.lemmas.Int.{ints}
use Rattle.predecessors.proofs.predecessor.comes_along.Goals as goal

pub reduced_along-requires-clause-labels : goal.reduced_along-requires-clause-labels
reduced_along-requires-clause-labels c = record {
  at_most = λ v. omega (arith, ints, c.requires.labels.at_most_0 v);
  at_least = λ v. omega (arith, ints, c.requires.labels.at_least v);
}
