use Rattle.run_laws.proofs.Undoing.{shows_the_same}
use Rattle.run_laws.proofs.undone.undo_shows_the_same.Goals as goal

pub returns : goal.returns
returns c = shows_the_same
