use Rattle.mcf.proofs.PerformingLemmas.{performs_both}
use Rattle.mcf.proofs.performing.perform_both.Goals as goal

pub returns : goal.returns
returns g c =
    let problem = c.requires.problem in
    let answer = c.requires.answer in
    record {
      engine = performs_both _ _ _ _ c.args.task problem.path answer.path _ _ _ _ _ _ _ _ _ _ _ problem.named answer.named problem.bytes problem.untouched
          answer.bytes answer.untouched c.perform_on-end.ensures.engine;
      out = c.perform_on-end.ensures.out;
    }
