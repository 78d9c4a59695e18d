use Rattle.std.proofs.Common.{rules}
use Rattle.dimacs_text.proofs.terminals.terminal.Goals as goal

pub returns-then-has_sink : goal.returns-then-has_sink
returns-then-has_sink c = search rules

pub returns-else-has_sink : goal.returns-else-has_sink
returns-else-has_sink c = search rules
