use Rattle.std.proofs.Common.{ℕ, ap, arith, sym, subst}
use Rattle.std.proofs.lemmas.Bool.{false≢true}
use Rattle.residual_graph.specs.Residual.{number_at}
use Rattle.residual_graph.specs.Side.{IsRoot}
use Rattle.cuts.specs.Cut.{amount}
use Rattle.cuts.proofs.CutLemmas.{amount-none}
use Rattle.cuts.proofs.ExcessLemmas.{root_listed}
use Rattle.cuts.proofs.excess.Excess.has_root.Goals as goal

pub returns : goal.returns
returns c =
    let e = c.self.inside.entries.items in
    let none = amount-none c.args.side e (λ v lt root.
    (let at = root_listed c.args.side c.self.inside.unbalanced e c.places-places.result.now c.self.invariant.0 c.places-places.ensures.listed v root in
    c.loop-j.invariant at.place (omega (arith, at.in_list)) (subst (λ (q : ℕ). IsRoot c.args.side (number_at e q)) (sym at.is_there) root))) in
    (λ h. absurd (false≢true h), λ some. absurd (omega (arith, some, ap (amount c.args.side) c.self.view_is, none)))
