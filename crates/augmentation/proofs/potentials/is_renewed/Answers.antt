use Rattle.augmentation.proofs.NearLemmas.{step_moved}
use Rattle.augmentation.proofs.potentials.is_renewed.Goals as goal

pub returns-then-mend-clause-step : goal.returns-then-mend-clause-step
returns-then-mend-clause-step c = step_moved _ _ c.mend.ensures.marked

pub returns-then-holds_whole-clause-step : goal.returns-then-holds_whole-clause-step
returns-then-holds_whole-clause-step c = λ p step. step_moved _ _ c.search.ensures.marked p (step_moved _ _ c.mend.ensures.marked p step)
