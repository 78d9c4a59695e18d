use Rattle.std.proofs.Common.{rules}
use Rattle.proposals.proofs.search.Search.push.Goals as goal

pub overflow_sub-lack : goal.overflow_sub-lack
overflow_sub-lack g c = search rules
