use Rattle.std.proofs.Common.{◌≡◌, ℕ, ◌<◌, ◌≤◌, true, get_or}
use Rattle.dimacs_lines.specs.Fields.{is_blank}
use Rattle.dimacs_lines.proofs.words.solid_from.Given as goal

abbrev pub invariant-loop-at : goal.invariant-loop-at
invariant-loop-at l = (k : ℕ) → l.from ≤ k → k < l.at → is_blank (get_or l.line k 0) ≡ true
