use Rattle.augmentation.proofs.potentials.mend.Goals as goal

pub holds-requires-clause-held : goal.holds-requires-clause-held
holds-requires-clause-held c = record { before = c.args.tree.now; held = c.requires.held; moved = c.mend.ensures.marked; sized = c.mend.ensures.sized }
