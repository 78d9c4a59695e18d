use Rattle.dimacs_io.proofs.DeviceLemmas.{WritesUpTo-after, AppendsBeginning-after, AppendsBeginning-more, WritesUpTo-kept}
use Rattle.dimacs_io.proofs.laws.writes_follow.Goals as goal

pub returns : goal.returns
returns c = record {
  both = WritesUpTo-after;
  stopped = AppendsBeginning-after;
  beginning = AppendsBeginning-more;
  kept = WritesUpTo-kept;
}
