use Rattle.std.proofs.Common.{nat_le, rules}
use Rattle.arrayvec.proofs.ArrayVecLemmas.{filter-from_retain}
use Rattle.session.proofs.marks.Marks.keep_up_to.Goals as goal

pub returns : goal.returns
returns c = rw (← c.self.view_is) (filter-from_retain _ (λ mark. nat_le mark.moment c.args.last) _ (λ x b f' y called. search rules) _ _ c.retain.ensures.filtered)
