use Rattle.std.proofs.Common.{◌≡◌, ℕ, List, ◌++◌, length, None}
use Rattle.dimacs_lines.specs.Stream.{decided}
use Rattle.dimacs_lines.specs.Reader.{StandsFor}
use Rattle.dimacs_lines.proofs.reader.TextReader.feed.Given as goal

-- what is done of the piece went to the reader, and no fault was decided
abbrev pub invariant-loop-rest : goal.invariant-loop-rest
invariant-loop-rest g l = (done : List ℕ) × (l.fn.piece ≡ done ++ l.rest)
    × ((setting : g.T.LineTaker.Setting) (text : List ℕ) → StandsFor (g.T.LineTaker.rule setting) (g.T.LineTaker.holds setting) l.fn.self text
    → (decided (g.T.LineTaker.rule setting) (text ++ done) ≡ None) × StandsFor (g.T.LineTaker.rule setting) (g.T.LineTaker.holds setting) l.self (text ++ done))
    × (l.self.failure ≡ None)

abbrev pub decreases-loop-rest : goal.decreases-loop-rest
decreases-loop-rest g l = length l.rest
