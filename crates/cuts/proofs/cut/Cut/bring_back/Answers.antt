use Rattle.cuts.proofs.CutLemmas.{back_listed}
use Rattle.cuts.proofs.cut.Cut.bring_back.Goals as goal

pub invariant_of-self : goal.invariant_of-self
invariant_of-self c =
    let t = c.self.inside.table in
    rw c.bring_back.ensures.entries
    (back_listed c.self.inside.listed c.list.new.listed c.places.result.now t.kept t.entries c.self.invariant c.places.ensures.named (rw c.self.view_is c.requires.as_many) c.list.ensures.same_size c.list.ensures.still c.list.ensures.noted)
