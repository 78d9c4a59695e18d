use Rattle.std.proofs.Common.{◌∙◌, inl, inr, sym, ap, pos, arith, length, w64}
use Rattle.std.specs.Int.{int_wrap}
use Rattle.std.proofs.lemmas.Int.{int_wrap_fits}
use Rattle.std.proofs.lemmas.Bool.{cases_lt}
use Rattle.std.proofs.lemmas.List.{get_or_past}
use Rattle.network.specs.Instance.{reduced}
use Rattle.augmentation.proofs.NodeLemmas.{held_other}
use Rattle.flow_solver.proofs.balance.fill_supplies.Goals as goal

pub returns : goal.returns
returns c = λ v. elim (cases_lt v (length c.loop-v.excess)) [
  | inl lt ↦ c.loop-v.invariant v (omega arith)
  | inr past ↦ get_or_past c.loop-v.excess v (pos 0) past ∙ sym (int_wrap_fits w64 (pos 0) (record { sfits = omega arith }))
      ∙ ap (int_wrap w64) (sym (held_other c.args.net.now.nodes (reduced c.args.net.now).supply v (λ h. omega (arith, h.1))))
]
