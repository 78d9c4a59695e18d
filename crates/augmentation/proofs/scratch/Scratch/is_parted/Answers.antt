use Rattle.std.proofs.Common.{◌≡◌, Bool, ap, false, not, refl, subst, true}
use Rattle.std.proofs.lemmas.Bool.{false≢true}
use Rattle.cuts.specs.Cut.{HasNoDeficit}
use Rattle.augmentation.specs.ScratchView.{ScratchView}
use Rattle.augmentation.proofs.scratch.Scratch.is_parted.Goals as goal

not_true : (b : Bool) → not b ≡ true → b ≡ false
not_true true told = absurd (false≢true told)
not_true false told = refl

pub returns-clause-parted : goal.returns-clause-parted
returns-clause-parted c = λ yes.
    (let marks = ap (λ (s : ScratchView). s.marks) c.self.view_is in
    record {
      set = c.mark_side.new.self.marks;
      closed = c.mark_side.ensures.marked.closed;
      holds = c.mark_side.ensures.marked.holds;
      no_deficit = subst (HasNoDeficit c.args.excess.now) marks (c.has_deficit_among.ensures (not_true _ yes));
    })
