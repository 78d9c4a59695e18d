use Rattle.std.proofs.Common.{◌≡◌, ℕ, ◌<◌, pos, ◌≤ℤ◌, true}
use Rattle.residual_graph.specs.Residual.{number_at}
use Rattle.tracked.specs.Marks.{in_set}
use Rattle.tracked.specs.NodeLists.{node_at}
use Rattle.cuts.proofs.excess.Excess.has_deficit_among.Given as goal

abbrev pub invariant-loop-j : goal.invariant-loop-j
invariant-loop-j l = (i : ℕ) → i < l.j → in_set l.marked (node_at l.places i) ≡ true → pos 0 ≤ℤ number_at l.self-inside.entries.items (node_at l.places i)
