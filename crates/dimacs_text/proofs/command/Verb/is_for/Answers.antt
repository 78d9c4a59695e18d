use Rattle.std.proofs.Common.{rules}
use Rattle.dimacs_text.proofs.command.Verb.is_for.Goals as goal

pub returns-in-Cost-Max : goal.returns-in-Cost-Max
returns-in-Cost-Max c = search rules
