use Rattle.std.proofs.Common.{◌∙◌, ◌+ℤ◌, ◌-ℤ◌, ℤ, List, SFits, ap, arith, mod-lt, rules, w64}
use Rattle.std.specs.Int.{int_wrap}
use Rattle.std.proofs.lemmas.Int.{wrapping_sub_is}
use Rattle.residual_graph.specs.Residual.{number_at}
use Rattle.flow_solver.proofs.BalanceLemmas.{IsRaised-put, wrapped_onto}
use Rattle.flow_solver.proofs.balance.add_difference.Goals as goal

pub returns : goal.returns
returns c =
    let v = c.args.v in
    let before = c.args.before in
    let after = c.args.after in
    let read = c.entries.result.now in
    let fits : SFits w64 (number_at c.entries.result.now c.args.v) = search rules in
    rw c.set.ensures (IsRaised-put v before after _ c.args.excess.now c.requires
    (wrapped_onto w64 (number_at read v) (after -ℤ before) _ fits (mod-lt _ (omega arith)) (wrapping_sub_is w64 after before c.ranges.after c.ranges.before)
    ∙ ap (λ (e : List ℤ). int_wrap w64 (number_at e v +ℤ (after -ℤ before))) c.entries.ensures))
