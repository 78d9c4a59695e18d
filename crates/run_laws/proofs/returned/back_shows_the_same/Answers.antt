use Rattle.run_laws.proofs.Returning.{returned_shows_the_same}
use Rattle.run_laws.proofs.returned.back_shows_the_same.Goals as goal

pub returns : goal.returns
returns c = returned_shows_the_same
