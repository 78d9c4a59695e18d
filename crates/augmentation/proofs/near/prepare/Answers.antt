use Rattle.std.proofs.Common.{arith}
use Rattle.augmentation.proofs.HeldLemmas.{held_by}
use Rattle.augmentation.proofs.near.prepare.Goals as goal

pub returns-clause-held : goal.returns-clause-held
returns-clause-held c =
    rw c.list_apart.ensures.same (held_by c.args.graph.now.rows c.args.flow.now.whole c.args.flow.now.entries c.is_renewed.new.tree.labels c.is_renewed.new.tree.predecessors c.places.result.now c.accept.new.self
    (omega (arith, c.requires.flow.same_length, c.places.ensures.as_many)) c.accept.ensures.labels c.accept.ensures.predecessors c.places.ensures.all_named c.accept.ensures.noted (c.is_renewed.ensures.tested c.if-not-is_renewed.false))
