use Rattle.mcf.proofs.PerformingLemmas.{performs_filed}
use Rattle.mcf.proofs.performing.perform_filed.Goals as goal

pub returns : goal.returns
returns g c =
    let problem = c.requires.problem in
    record {
      engine = performs_filed _ _ _ _ c.args.task problem.path _ _ _ _ _ _ _ _ _ _ _ problem.named c.requires.filed problem.bytes problem.untouched
          c.input-commands.ensures.bytes c.input-commands.ensures.given c.perform_on-end.ensures.engine;
      out = c.perform_on-end.ensures.out;
    }
