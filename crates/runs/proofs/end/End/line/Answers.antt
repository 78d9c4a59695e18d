use Rattle.std.proofs.Common.{rules}
use Rattle.runs.proofs.end.End.line.Goals as goal

pub returns-in-Refused : goal.returns-in-Refused
returns-in-Refused c = search rules
