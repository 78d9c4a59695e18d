use Rattle.std.proofs.Common.{refl, rules}
use Rattle.c_calls.proofs.ListLemmas.{best_given, cut_given}
use Rattle.c_calls.proofs.answer.give_answer.Goals as goal

pub returns-in-Best-clause-lists : goal.returns-in-Best-clause-lists
returns-in-Best-clause-lists c =
    best_given c.args.session.now.moments.present c.in-Best.field-0 c.args.answer.now _ c.in-Best.ensures.value c.verdict.ensures.answered
    (rw c.flow.ensures.value at c.put.ensures) (rw (← c.potentials.ensures.value) (search rules depth 2)) refl

pub returns-in-Infeasible-clause-lists : goal.returns-in-Infeasible-clause-lists
returns-in-Infeasible-clause-lists c =
    cut_given c.args.session.now.moments.present c.in-Infeasible.field-0 c.args.answer.now _ c.in-Infeasible.ensures.value c.verdict.ensures.answered
    (rw c.cut.ensures.value at c.put-in-Infeasible.ensures) refl refl
