use Rattle.run_laws.proofs.Turning.{turns_are_cut, no_other_cut}
use Rattle.run_laws.proofs.turns.turns_are_the_lines.Goals as goal

pub returns : goal.returns
returns c = record { cut = turns_are_cut; only = no_other_cut }
