use Rattle.std.proofs.Common.{arith}
use Rattle.std.proofs.lemmas.Grind.{common_steps}
use Rattle.history.proofs.Timelines.{stands_back, steps_back}
use Rattle.history.proofs.stack.History.undo.Goals as goal

pub returns-clause-changes : goal.returns-clause-changes
returns-clause-changes g c = grind (arith, common_steps)

pub returns-clause-boards : goal.returns-clause-boards
returns-clause-boards g c = steps_back g.C.Change.Fits _ _ g.met.C.Change.board_again c.args.self.now record { past = _; future = _; room = 0 } _ _ c.requires (returns-clause-changes g c)

pub returns-clause-stands : goal.returns-clause-stands
returns-clause-stands g c = stands_back _ _ _ _ (λ c b h _. g.met.C.Change.fits_again c b h) g.met.C.Change.board_again _ _ _ _ c.requires c.requires (returns-clause-changes g c)
