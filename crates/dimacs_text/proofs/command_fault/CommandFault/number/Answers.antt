use Rattle.std.proofs.Common.{rules}
use Rattle.dimacs_text.proofs.command_fault.CommandFault.number.Goals as goal

pub returns-in-GroupTooLong : goal.returns-in-GroupTooLong
returns-in-GroupTooLong c = search rules
