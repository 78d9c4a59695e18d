use Rattle.std.proofs.Common.{sym, ◌∙◌}
use Rattle.dimacs_lines.proofs.NameLemmas.{named}
use Rattle.dimacs_lines.proofs.name.Name.of.Goals as goal

pub returns : goal.returns
returns c = named c.args.word.now c.filled.result (sym c.is_name.ensures ∙ c.if-not-is_name.false) c.filled.ensures
