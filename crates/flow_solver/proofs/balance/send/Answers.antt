use Rattle.std.proofs.Common.{◌∙◌, arith, w64, rules}
use Rattle.std.proofs.lemmas.Int.{to_z-of_z}
use Rattle.std.proofs.lemmas.List.{take_all}
use Rattle.residual_graph.specs.Residual.{number_at}
use Rattle.flow_solver.proofs.BalanceLemmas.{wrapped_excess_more}
use Rattle.flow_solver.proofs.balance.send.Goals as goal

pub loop-k-preserved : goal.loop-k-preserved
loop-k-preserved c =
    let rows = c.args.rows.now in
    let flow = c.args.flow.now in
    let k = c.loop-k.k in
    record {
      same_length = c.carry_over.ensures.same_length ∙ c.loop-k.invariant.same_length;
      sent = λ supply is. wrapped_excess_more rows supply flow c.loop-k.excess c.carry_over.new.excess k c.loop-k-test.true c.requires.same_length
          (rw (to_z-of_z w64 (number_at flow k) (search rules)) at c.carry_over.ensures)
          (c.loop-k.invariant.sent supply is);
    }

pub carry_over-requires-clause-tail_in : goal.carry_over-requires-clause-tail_in
carry_over-requires-clause-tail_in c = omega (arith, (c.requires.ends c.loop-k.k c.loop-k-test.true).0, c.loop-k.invariant.same_length)

pub carry_over-requires-clause-head_in : goal.carry_over-requires-clause-head_in
carry_over-requires-clause-head_in c = omega (arith, (c.requires.ends c.loop-k.k c.loop-k-test.true).1, c.loop-k.invariant.same_length)

pub returns-clause-excess : goal.returns-clause-excess
returns-clause-excess c = λ supply is.
    rw (take_all c.loop-k.k c.args.rows.now (omega arith), take_all c.loop-k.k c.args.flow.now (omega (arith, c.requires.same_length))) at (c.loop-k.invariant.sent supply is)
