use Rattle.std.proofs.Common.{◌∙◌}
use Rattle.dimacs_lines.proofs.PlaceLemmas.{unwrap_or-first}
use Rattle.dimacs_lines.proofs.cutter.line_length.Goals as goal

pub returns-in_default : goal.returns-in_default
returns-in_default c = c.unwrap_or.ensures ∙ unwrap_or-first c.args.piece.now c.memchr.result c.memchr.ensures
