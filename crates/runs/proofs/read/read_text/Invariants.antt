use Rattle.std.proofs.Common.{◌≡◌, ℕ, List, [], None}
use Rattle.runs.specs.Reading.{SourceGives}
use Rattle.runs.proofs.read.read_text.Given as goal

abbrev pub invariant-pieces : goal.invariant-pieces
invariant-pieces g l = record {
  so_far : (given : List ℕ) × SourceGives g.S.Source.remaining g.S.Source.given g.S.Source.most_left l.fn.source l.source given
      × ((setting : g.R.PieceReader.Setting) → g.R.PieceReader.stands setting l.fn.reader [] → g.R.PieceReader.fault setting [] ≡ None
      → (g.R.PieceReader.fault setting given ≡ None) × g.R.PieceReader.stands setting l.reader given);
  failures : g.S.Source.failures l.source ≡ g.S.Source.failures l.fn.source;
}

abbrev pub decreases-pieces : goal.decreases-pieces
decreases-pieces g l = g.S.Source.most_left l.source
