use Rattle.std.proofs.Common.{◌≡◌, ◌∙◌, Bool, ap, length, refl, sym}
use Rattle.tracked.specs.Tracked.{TrackedView}
use Rattle.cuts.proofs.CutLemmas.{taken_all}
use Rattle.cuts.proofs.cut.Cut.take.Goals as goal
use Rattle.cuts.proofs.cut.Cut.take.Goals.{After-swap}

sized : (c : After-swap) → length c.take_marks-2.new.table.entries ≡ length c.args.marked.now
sized c = c.take_marks-2.ensures.written.same_length ∙ c.take_marks.ensures.written.same_length ∙ ap (λ (t : TrackedView Bool). length t.entries) c.self.view_is ∙ sym c.requires.same_length

all_taken : (c : After-swap) → c.take_marks-2.new.table.entries ≡ c.args.marked.now
all_taken c =
    taken_all c.self.inside.listed c.self.inside.table.entries c.take_marks.new.table.entries c.take_marks-2.new.table.entries c.args.marked.now c.places.result.now c.places-2.result.now
    c.self.invariant (sized c) c.places.ensures.listed c.places-2.ensures.listed c.take_marks.ensures.taken c.take_marks-2.ensures.taken

pub invariant_of-self : goal.invariant_of-self
invariant_of-self c =
    let at = (goal.at.invariant_of-self c).After-swap in
    rw (c.swap.ensures.x_after, all_taken at) (record { one_a_node = refl; unmarked = λ v out. out })

pub returns-clause-entries : goal.returns-clause-entries
returns-clause-entries c = all_taken c
