use Rattle.answer_text.proofs.AnswerLemmas.{nothing_held}
use Rattle.answer_text.proofs.answer_reader.AnswerReader.new.Goals as goal

pub returns-clause-undecided : goal.returns-clause-undecided
returns-clause-undecided c = c.new-2.ensures.undecided (c.args.nodes, c.args.arcs)

pub returns-clause-text : goal.returns-clause-text
returns-clause-text c = c.new-2.ensures.text (c.args.nodes, c.args.arcs) (nothing_held c.args.nodes c.args.arcs c.new.result c.new.ensures)
