-- The ends and the costs of the residual arcs along an arc within the limits.
use Rattle.std.proofs.Common.{ℕ, ◌<◌, pos, neg_ℤ, ◌≤ℤ◌, arith}
use Rattle.std.proofs.lemmas.Int.{ints}
use Rattle.dimacs_text.specs.declared.problem.ArcRow.{ArcRow}
use Rattle.residual_graph.specs.declared.residual.Way.{Way}
use Rattle.residual_graph.specs.declared.residual.Way.TheVariants.{Backward, Forward}
use Rattle.residual_graph.specs.Limits.{cost_limit}
use Rattle.residual_graph.specs.Residual.{IsRow, cost_of, end_of, start_of}

pub end_of-in : (nodes : ℕ) (a : ArcRow) (way : Way) → IsRow nodes a → end_of a way < nodes
end_of-in nodes a Forward r = r.head_in
end_of-in nodes a Backward r = r.tail_in

pub start_of-in : (nodes : ℕ) (a : ArcRow) (way : Way) → IsRow nodes a → start_of a way < nodes
start_of-in nodes a Forward r = r.tail_in
start_of-in nodes a Backward r = r.head_in

pub cost_of-bounds : (nodes : ℕ) (a : ArcRow) (way : Way) → IsRow nodes a → (neg_ℤ (pos cost_limit) ≤ℤ cost_of a way) × (cost_of a way ≤ℤ pos cost_limit)
cost_of-bounds nodes a Forward r = (r.cost_low, r.cost_high)
cost_of-bounds nodes a Backward r = (omega (arith, ints, r.cost_high), omega (arith, ints, r.cost_low))
