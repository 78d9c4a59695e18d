use Rattle.std.proofs.Common.{arith, sym}
use Rattle.augmentation.proofs.NearLemmas.{made_all}
use Rattle.augmentation.proofs.near.write_at.Goals as goal

pub returns-clause-entries : goal.returns-clause-entries
returns-clause-entries c =
    made_all c.args.places.now c.loop-place.place-index c.args.table.now.entries c.loop-place.table.entries c.args.numbers.now c.loop-place.invariant.made (sym c.requires.same_length) c.requires.named (omega (arith, c.loop-place-test.false))
