use Rattle.dimacs_text.proofs.problem_reader.ProblemReader.feed.Goals as goal

pub returns-clause-text : goal.returns-clause-text
returns-clause-text c = c.feed.ensures.text tt

pub returns-clause-memory : goal.returns-clause-memory
returns-clause-memory c = c.feed.ensures.memory tt
