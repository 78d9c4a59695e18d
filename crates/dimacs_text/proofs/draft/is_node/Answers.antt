use Rattle.std.proofs.Common.{rules}
use Rattle.dimacs_text.proofs.draft.is_node.Goals as goal

pub returns-then-id-ge1 : goal.returns-then-id-ge1
returns-then-id-ge1 c = search rules
