use Rattle.run_laws.proofs.Undoing.{redone_shows_the_same}
use Rattle.run_laws.proofs.undone.redo_shows_the_same.Goals as goal

pub returns : goal.returns
returns c = redone_shows_the_same
