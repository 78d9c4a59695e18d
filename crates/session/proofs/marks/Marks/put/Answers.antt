use Rattle.std.proofs.Common.{refl, sym, ◌∙◌, eqb-true}
use Rattle.session.proofs.Marked.{there_is_place, put_there, no_place, put_last, not_within}
use Rattle.session.proofs.marks.Marks.put.Goals as goal

pub returns-in-Some-clause-answer : goal.returns-in-Some-clause-answer
returns-in-Some-clause-answer c = there_is_place c.args.self.now c.args.name.now c.args.moment c.place_of-place.result c.place_of-place.ensures (rw (← c.self.view_is) (c.in-Some.ensures.variant.0 refl))

pub returns-in-Some-clause-put : goal.returns-in-Some-clause-put
returns-in-Some-clause-put c = rw c.self.view_is (put_there c.args.self.now c.args.name.now c.args.moment c.place_of-place.result c.place_of-place.ensures (rw (← c.self.view_is) (c.in-Some.ensures.variant.0 refl)))

pub returns-then-is_full-clause-answer : goal.returns-then-is_full-clause-answer
returns-then-is_full-clause-answer c =
    no_place c.args.self.now c.args.name.now c.args.moment c.place_of-place.result c.place_of-place.ensures
    (rw (← c.self.view_is) (not_within _ _ c.in_default.ensures.variant.1))
    (rw (← c.self.view_is) (eqb-true _ _ (sym c.if-is_full.ensures.value)))

pub returns-clause-put : goal.returns-clause-put
returns-clause-put c =
    c.push.ensures.items
    ∙ rw c.self.view_is (put_last c.args.self.now c.args.name.now c.args.moment c.place_of-place.result c.place_of-place.ensures (rw (← c.self.view_is) (not_within _ _ c.in_default.ensures.variant.1)))
