use Rattle.std.proofs.Common.{◌∙◌, pos, arith, sym}
use Rattle.std.proofs.lemmas.List.{ext_get_or}
use Rattle.augmentation.proofs.potentials.write_all.Goals as goal

pub returns-clause-entries : goal.returns-clause-entries
returns-clause-entries c =
    let sized = c.loop-v.invariant.written.same_length ∙ sym c.requires.same_length in
    ext_get_or (pos 0) c.loop-v.table.entries c.args.numbers.now sized (λ u lt. c.loop-v.invariant.same u (omega (arith, lt, sized, c.loop-v-test.false)))
