use Rattle.std.proofs.Common.{◌≡◌, ℕ, ◌<◌, false, length}
use Rattle.std.specs.Prelude.{slice_index_or}
use Rattle.shortest_paths.specs.Tree.{IsArcNoted, StaysHeld}
use Rattle.shortest_paths.proofs.tree.Tree.note_all.Given as goal

abbrev pub invariant-loop-place : goal.invariant-loop-place
invariant-loop-place l = record {
  held : StaysHeld l.initial.self l.self;
  noted : l.self.is_lost ≡ false → (j : ℕ) → j < l.place-index → slice_index_or l.places j 0 < length l.graph.rows → IsArcNoted l.graph.rows l.self (slice_index_or l.places j 0);
}
