use Rattle.std.proofs.Common.{◌≡◌}
use Rattle.tracked.proofs.TouchedLemmas.{AreForgotten}
use Rattle.tracked.proofs.touched.Touched.clear.Given as goal

abbrev pub invariant-loop-j : goal.invariant-loop-j
invariant-loop-j l =
    AreForgotten l.initial.self-inside.marks.items l.self-inside.places.items l.j l.self-inside.marks.items ×
    (l.self-inside.places ≡ l.initial.self-inside.places)
