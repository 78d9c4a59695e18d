use Rattle.std.proofs.Common.{arith, subst, sym}
use Rattle.std.proofs.lemmas.Int.{ints}
use Rattle.augmentation.specs.Path.{HavePathsOn}
use Rattle.augmentation.proofs.augment.augment.Goals as goal

pub returns-then-amount-le0-clause-some : goal.returns-then-amount-le0-clause-some
returns-then-amount-le0-clause-some c = λ can.
    (let there = subst (HavePathsOn c.args.path) (sym c.entries.ensures) can.paths in
    absurd (omega (arith, ints, c.if-amount-le0.true, c.amount_along-root.ensures.some (record { paths = there; gives = can.gives }))))
