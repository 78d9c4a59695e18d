use Rattle.run_laws.proofs.Running.{solve_opens, solve_shown}
use Rattle.run_laws.proofs.determined.solve_and_session_agree.Goals as goal

pub returns : goal.returns
returns c = record { outcome = solve_opens; shown = solve_shown }
