use Rattle.std.proofs.Common.{rules}
use Rattle.dimacs_text.proofs.command.read_by.Goals as goal

pub returns-in-Undo : goal.returns-in-Undo
returns-in-Undo c = search rules

pub returns-in-End : goal.returns-in-End
returns-in-End c = search rules

pub returns-in_ok-read_name-in-Back : goal.returns-in_ok-read_name-in-Back
returns-in_ok-read_name-in-Back c = search rules
