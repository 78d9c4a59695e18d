use Rattle.answer_text.specs.Answer.{answer_rule, answer_end, answers}
use Rattle.answer_text.proofs.AnswerDecidedLemmas.{rule_other, end_other}
use Rattle.answer_text.proofs.answer_reader.answer_decided_for_all.Goals as goal

pub returns-clause-nothing : goal.returns-clause-nothing
returns-clause-nothing c = λ nodes arcs. c.decided_for_any_rule.ensures.nothing (answer_rule nodes arcs)

pub returns-clause-always : goal.returns-clause-always
unfolding answers
returns-clause-always c = λ nodes arcs. c.decided_for_any_rule.ensures.always (answer_rule nodes arcs) (answer_end nodes arcs)

pub returns-clause-only : goal.returns-clause-only
unfolding answers
returns-clause-only c = λ nodes arcs. c.decided_for_any_rule.ensures.only (answer_rule nodes arcs) (answer_end nodes arcs) (rule_other nodes arcs) (end_other nodes arcs)
