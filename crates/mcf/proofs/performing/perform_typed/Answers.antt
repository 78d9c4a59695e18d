use Rattle.mcf.proofs.PerformingLemmas.{performs_typed}
use Rattle.mcf.proofs.performing.perform_typed.Goals as goal

pub returns : goal.returns
returns g c = record {
  engine = performs_typed _ _ _ c.args.task _ _ _ _ _ _ _ _ _ _ _ _ c.requires.typed c.input-problem.ensures.bytes c.input-problem.ensures.given c.perform_on-end.ensures.engine;
  out = c.perform_on-end.ensures.out;
}
