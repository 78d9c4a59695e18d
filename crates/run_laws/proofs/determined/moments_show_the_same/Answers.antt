use Rattle.run_laws.proofs.Showing.{shown_alike, shown_the_same}
use Rattle.run_laws.proofs.determined.moments_show_the_same.Goals as goal

pub returns : goal.returns
returns c = record { alike = shown_alike; same = shown_the_same }
