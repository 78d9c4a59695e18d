use Rattle.cuts.proofs.CutLemmas.{exchanged_listed}
use Rattle.cuts.proofs.cut.Cut.exchange.Goals as goal

pub invariant_of-self : goal.invariant_of-self
invariant_of-self c = rw (c.exchange.ensures.entries, c.note.ensures) (exchanged_listed c.self.inside.listed c.self.inside.table.entries c.args.node c.args.value.now (rw c.self.view_is c.requires.node) c.self.invariant)
