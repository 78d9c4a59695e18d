use Rattle.plan_laws.proofs.MinimumCutLemmas.{moment_shows_minimum_cut, shows_minimum_cut}
use Rattle.plan_laws.proofs.minimum_cut.potentials_show_a_minimum_cut.Goals as goal

pub returns : goal.returns
returns c = record { flows = shows_minimum_cut; answers = moment_shows_minimum_cut }
