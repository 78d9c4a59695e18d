use Rattle.dimacs_text.specs.Reading.{problem_rule, problem_end, reads}
use Rattle.dimacs_text.proofs.OtherLemmas.{rule_other, end_other}
use Rattle.dimacs_text.proofs.problem_reader.decided_for_all.Goals as goal

pub returns-clause-nothing : goal.returns-clause-nothing
returns-clause-nothing c = c.decided_for_any_rule.ensures.nothing problem_rule

pub returns-clause-always : goal.returns-clause-always
unfolding reads
returns-clause-always c = c.decided_for_any_rule.ensures.always problem_rule problem_end

pub returns-clause-only : goal.returns-clause-only
unfolding reads
returns-clause-only c = c.decided_for_any_rule.ensures.only problem_rule problem_end rule_other end_other
