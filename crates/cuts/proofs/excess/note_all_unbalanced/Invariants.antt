use Rattle.std.proofs.Common.{◌≡◌, ℕ, ◌<◌, length, pos, false}
use Rattle.residual_graph.specs.Residual.{number_at}
use Rattle.tracked.specs.Marks.{in_set}
use Rattle.cuts.proofs.excess.note_all_unbalanced.Given as goal

abbrev pub invariant-loop-v : goal.invariant-loop-v
invariant-loop-v l = record {
  one_a_node : length l.unbalanced ≡ length l.entries;
  balanced : (k : ℕ) → k < l.v → in_set l.unbalanced k ≡ false → number_at l.entries k ≡ pos 0;
}
