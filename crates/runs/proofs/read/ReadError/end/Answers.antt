use Rattle.std.proofs.Common.{rules}
use Rattle.runs.proofs.read.ReadError.end.Goals as goal

pub returns-in-Source : goal.returns-in-Source
returns-in-Source c = search rules
