use Rattle.std.proofs.Common.{◌≡◌, ◌∙◌, ℤ, Bool, List, ap, length, subst, sym}
use Rattle.std.specs.Prelude.{All}
use Rattle.cuts.specs.Excess.{AreUnbalancedListed, IsBalancedOrListed}
use Rattle.cuts.proofs.ExcessLemmas.{listed_anew}
use Rattle.cuts.proofs.excess.Excess.tidy.Goals as goal

pub invariant_of-self : goal.invariant_of-self
invariant_of-self c =
    let e = c.self.inside.entries.items in
    let listed = c.note_unbalanced.new.unbalanced in
    let places = c.places-then-places-gt-FEW_PLACES in
    let sized : length listed ≡ length e = c.note_unbalanced.ensures.same_size ∙ c.clear.ensures.size ∙ c.self.invariant.1 in
    let noted : All (IsBalancedOrListed listed e) places.result.now = subst (λ (f : List ℤ). All (IsBalancedOrListed listed f) places.result.now) c.deref.ensures.value c.note_unbalanced.ensures.noted in (
      subst (λ (l : List Bool). AreUnbalancedListed l e) (sym c.swap.ensures.x_after) (listed_anew c.self.inside.unbalanced listed e places.result.now c.self.invariant.0 places.ensures.listed sized noted),
      ap length c.swap.ensures.y_after ∙ c.self.invariant.0.one_a_node,
    )
