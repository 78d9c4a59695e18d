use Rattle.std.proofs.Common.{rules}
use Rattle.mcf.proofs.performing.perform.Goals as goal

pub returns-in_err-named-clause-unnamed : goal.returns-in_err-named-clause-unnamed
returns-in_err-named-clause-unnamed g c = search rules

pub perform_on_texts-requires : goal.perform_on_texts-requires
perform_on_texts-requires g c = search rules

pub returns-clause-performed : goal.returns-clause-performed
returns-clause-performed g c = search rules

pub returns-clause-out : goal.returns-clause-out
returns-clause-out g c = search rules
