use Rattle.augmentation.proofs.NearLemmas.{named_apart}
use Rattle.augmentation.proofs.near.write_labels.Goals as goal

pub write_at-requires-clause-named : goal.write_at-requires-clause-named
write_at-requires-clause-named c =
    rw c.labels-else-are_many.ensures (named_apart c.args.tree.now.touched c.places.result.now c.args.tree.now.labels c.args.table.now.entries (c.requires.step c.if-are_many.ensures) (rw c.touched.ensures at c.places.ensures.listed))
