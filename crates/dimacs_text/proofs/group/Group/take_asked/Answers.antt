use Rattle.std.proofs.Common.{rules}
use Rattle.dimacs_text.proofs.group.Group.take_asked.Goals as goal

pub returns-in-Ok-clause-after : goal.returns-in-Ok-clause-after
returns-in-Ok-clause-after c = search rules

pub returns-in-Ok-2-clause-after : goal.returns-in-Ok-2-clause-after
returns-in-Ok-2-clause-after c = search rules

pub returns-in-Err-clause-after : goal.returns-in-Err-clause-after
returns-in-Err-clause-after c = search rules

pub returns-else-is_none-clause-after : goal.returns-else-is_none-clause-after
returns-else-is_none-clause-after c = search rules
