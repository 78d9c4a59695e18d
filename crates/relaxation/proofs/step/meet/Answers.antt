use Rattle.std.proofs.Common.{rules}
use Rattle.relaxation.proofs.step.meet.Goals as goal

pub overflow_sub-lack : goal.overflow_sub-lack
overflow_sub-lack g c = search rules

pub overflow_sub-left : goal.overflow_sub-left
overflow_sub-left g c = search rules
