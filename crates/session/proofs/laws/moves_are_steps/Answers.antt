use Rattle.session.proofs.Moves.{moved_alike, undone_so_often, redone_so_often}
use Rattle.session.proofs.laws.moves_are_steps.Goals as goal

pub returns : goal.returns
returns g c = record { one = moved_alike; undos = undone_so_often; redos = redone_so_often }
