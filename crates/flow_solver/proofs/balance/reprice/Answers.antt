use Rattle.std.proofs.Common.{◌≡◌, ◌∙◌, ◌+ℤ◌, ◌-ℤ◌, ◌*ℤ◌, FitsSigned, arith, mod-lt, subst, sym, to_z, of_z}
use Rattle.std.specs.Int.{int_wrap, w128}
use Rattle.std.proofs.lemmas.Int.{ints, fits_signed_from_abs, wrapping_mul_is}
use Rattle.flow_solver.proofs.BalanceLemmas.{wrapped_onto}
use Rattle.flow_solver.proofs.balance.reprice.Goals as goal

pub returns : goal.returns
returns c =
    let more = to_z w128 (of_z w128 c.from.result) -ℤ to_z w128 (of_z w128 c.from-2.result) in
    let more_is : to_z w128 (of_z w128 c.from.result) -ℤ to_z w128 (of_z w128 c.from-2.result) ≡ c.args.after -ℤ c.args.before = omega (arith, ints, c.from.ensures, c.from-2.ensures) in
    let factor_is : c.from-3.result ≡ c.args.factor = omega (arith, ints, c.from-3.ensures) in
    let more_fits : FitsSigned w128 (c.args.after -ℤ c.args.before) = fits_signed_from_abs w128 (c.args.after -ℤ c.args.before) (omega (arith, ints)) in
    let factor_fits : FitsSigned w128 c.args.factor = record { sfits = omega arith } in
    wrapped_onto w128 c.args.cost (more *ℤ c.from-3.result) _ c.ranges.cost (mod-lt _ (omega arith))
    (wrapping_mul_is w128 more c.from-3.result (subst (FitsSigned w128) (sym more_is) more_fits) (subst (FitsSigned w128) (sym factor_is) factor_fits))
    ∙ (λ i. int_wrap w128 (c.args.cost +ℤ more_is i *ℤ factor_is i))
