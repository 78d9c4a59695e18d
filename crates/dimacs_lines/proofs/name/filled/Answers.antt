use Rattle.std.proofs.Common.{◌++◌, length, ap}
use Rattle.std.proofs.lemmas.List.{drop-replicate}
use Rattle.dimacs_lines.specs.declared.name.TheConstants.{NAME_LIMIT}
use Rattle.dimacs_lines.proofs.name.filled.Goals as goal

pub returns : goal.returns
returns c = rw c.copy_from_slice.ensures.after (ap (λ rest. c.args.letters.now ++ rest) (drop-replicate (length c.args.letters.now) NAME_LIMIT 0))
