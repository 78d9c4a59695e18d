use Rattle.std.proofs.Common.{◌∙◌, ap₂, refl, rules, sym}
use Rattle.std.proofs.lemmas.Bool.{false≢true}
use Rattle.session.specs.Step.{state_of}
use Rattle.c_calls.specs.Library.{IsOpeningOf}
use Rattle.c_calls.proofs.answer.solve_problem.Goals as goal

pub returns-in-Ok-clause-solved : goal.returns-in-Ok-clause-solved
returns-in-Ok-clause-solved c done =
    let opened = c.in-Ok.ensures in
    let opening : IsOpeningOf c.args.problem 0 (state_of c.in-Ok.session) =
    record { instance_is = opened.instance; answered = opened.answered; no_past = opened.past; no_future = opened.future; no_marks = opened.marks } in
    record { session = state_of c.in-Ok.session; opening = opening; room = search rules; view = c.give_answer.ensures.view; lists = c.give_answer.ensures.lists }

pub returns-then-not-has_room-clause-too_short : goal.returns-then-not-has_room-clause-too_short
returns-then-not-has_room-clause-too_short c same =
    record {
      no_room = λ room. false≢true (sym c.if-not-has_room.true ∙ c.has_room.ensures.1 room);
      sizes = ap₂ (λ nodes arcs. record c.args.answer.now.view { nodes = nodes; arcs = arcs }) c.nodes-answer.ensures.value (search rules depth 2);
    }

pub returns-then-not-has_room-clause-refused : goal.returns-then-not-has_room-clause-refused
returns-then-not-has_room-clause-refused c other = record { flow = refl; potentials = refl; cut = refl }
