use Rattle.std.proofs.Common.{◌∙◌}
use Rattle.dimacs_text.proofs.ReadLemmas.{parsed_of_nothing}
use Rattle.dimacs_text.proofs.problem_reader.ProblemReader.new.Goals as goal

pub returns-clause-text : goal.returns-clause-text
returns-clause-text c = c.new-2.ensures.text tt (c.new.ensures ∙ parsed_of_nothing)

pub returns-clause-undecided : goal.returns-clause-undecided
returns-clause-undecided c = c.new-2.ensures.undecided tt
