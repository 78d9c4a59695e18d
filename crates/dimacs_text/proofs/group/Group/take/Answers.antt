use Rattle.std.proofs.Common.{ap, ◌∙◌}
use Rattle.dimacs_text.specs.Group.{gathered, and_line}
use Rattle.dimacs_text.proofs.BracketLemmas.{is_end_asked-line}
use Rattle.dimacs_text.proofs.GroupLemmas.{taken}
use Rattle.dimacs_text.proofs.group.Group.take.Goals as goal

pub returns-clause-ends : goal.returns-clause-ends
returns-clause-ends c = λ whole is. rw (c.take_asked.ensures.ends, c.asked.ensures whole is) (is_end_asked-line c.args.kind whole)

pub returns-clause-lines : goal.returns-clause-lines
returns-clause-lines c = λ whole is lines e.
    rw (c.take_asked.ensures.after, c.asked.ensures whole is) (taken c.args.kind lines whole c.args.self.now e)
    ∙ ap (λ ends. gathered c.args.kind 0 (and_line ends lines whole)) (is_end_asked-line c.args.kind whole)
