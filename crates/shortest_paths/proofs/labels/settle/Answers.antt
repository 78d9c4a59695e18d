use Rattle.std.proofs.Common.{◌≡◌, ◌∙◌, ◌≤ℤ◌, ◌+ℤ◌, ℤ, ap, arith, pos, rules, w64, to_z, of_z}
use Rattle.std.specs.Prelude.{◌<ℤ◌}
use Rattle.std.proofs.lemmas.Int.{ints, to_z-of_z}
use Rattle.std.proofs.lemmas.List.{get_or-set_same}
use Rattle.residual_graph.specs.Residual.{number_at}
use Rattle.shortest_paths.proofs.labels.settle.Goals as goal
use Rattle.shortest_paths.proofs.labels.settle.Goals.{After-raise}

-- the potential that the node has now, and as it was read
here : (c : After-raise) → number_at c.raise.new.potentials c.args.node ≡ number_at c.args.potentials.now c.args.node +ℤ c.args.waiting.key
here c = ap (λ l. number_at l c.args.node) c.raise.ensures ∙ get_or-set_same c.args.potentials.now c.args.node (number_at c.args.potentials.now c.args.node +ℤ c.args.waiting.key) (pos 0) c.requires.node

read : (c : After-raise) → to_z w64 (of_z w64 (number_at c.raise.new.potentials c.args.node)) ≡ number_at c.args.potentials.now c.args.node +ℤ c.args.waiting.key
read c = ap (λ (n : ℤ). to_z w64 (of_z w64 n)) (here c) ∙ to_z-of_z w64 (number_at c.args.potentials.now c.args.node +ℤ c.args.waiting.key) c.requires.fits

pub come_along-requires-clause-end : goal.come_along-requires-clause-end
come_along-requires-clause-end c =
    let low : to_z w64 (of_z w64 (number_at c.raise.new.potentials c.args.node)) <ℤ pos 0 = search rules in
    c.requires.along.is_arc (omega (arith, ints, low, read (goal.at.come_along-requires-clause-end c).After-raise))

pub come_along-requires-clause-low : goal.come_along-requires-clause-low
come_along-requires-clause-low c =
    let low : to_z w64 (of_z w64 (number_at c.raise.new.potentials c.args.node)) <ℤ pos 0 = search rules in
    c.requires.along.low (omega (arith, ints, low, read (goal.at.come_along-requires-clause-low c).After-raise))

pub returns-then-potentials-node-lt0-clause-settled : goal.returns-then-potentials-node-lt0-clause-settled
returns-then-potentials-node-lt0-clause-settled c =
    let s = (goal.at.returns-then-potentials-node-lt0-clause-settled c).After-raise in
    let low : to_z w64 (of_z w64 (number_at c.raise.new.potentials c.args.node)) <ℤ pos 0 = search rules in
    record { root = λ high. absurd (omega (arith, ints, high, low, here s, read s)); along = λ _. c.come_along.ensures }

pub returns-clause-settled : goal.returns-clause-settled
returns-clause-settled c =
    let s = (goal.at.returns-clause-settled c).After-raise in
    let high : pos 0 ≤ℤ to_z w64 (of_z w64 (number_at c.raise.new.potentials c.args.node)) = search rules in
    record { root = λ _. search rules; along = λ low. absurd (omega (arith, ints, high, low, here s, read s)) }
