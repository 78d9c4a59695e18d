use Rattle.answer_text.proofs.answer_reader.AnswerReader.feed.Goals as goal

pub returns-clause-text : goal.returns-clause-text
returns-clause-text c = λ nodes arcs. c.feed.ensures.text (nodes, arcs)

pub returns-clause-memory : goal.returns-clause-memory
returns-clause-memory c = λ nodes arcs. c.feed.ensures.memory (nodes, arcs)
