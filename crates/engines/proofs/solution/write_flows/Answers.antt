use Rattle.std.proofs.Common.{refl, sym, arith, rules}
use Rattle.std.proofs.lemmas.Result.{err_from_is_err_and}
use Rattle.engines.proofs.PrintingLemmas.{Wrote-nothing, Wrote-more, Wrote-all, Wrote-stopped, flow_lines-all, flow_lines-step}
use Rattle.engines.proofs.solution.write_flows.Goals as goal

pub loop-place-init : goal.loop-place-init
loop-place-init g c = record { wrote = Wrote-nothing _ _; failures = refl; flushes = refl }

pub loop-place-preserved : goal.loop-place-preserved
loop-place-preserved g c =
    let step = flow_lines-step c.args.net.now.arcs c.args.flow.now c.loop-place.place _ _ (omega arith) (omega arith) (sym c.in-Some.ensures) in
    record {
      wrote = Wrote-more _ _ _ _ _ _ _ c.loop-place.invariant.wrote step c.in_ok-write_arc.ensures.bytes;
      failures = search rules;
      flushes = search rules;
    }

pub returns-in_err-write_arc : goal.returns-in_err-write_arc
returns-in_err-write_arc g c =
    let p = err_from_is_err_and c.from_residual.result c.from_residual.ensures.1 in
    let step = flow_lines-step c.args.net.now.arcs c.args.flow.now c.loop-place.place _ _ (omega arith) (omega arith) (sym c.in-Some.ensures) in
    rw (p.1) (record {
      bytes = Wrote-stopped _ _ _ _ _ _ _ c.loop-place.invariant.wrote step c.in_err-write_arc.ensures.bytes;
      failed = search rules;
      flushed = search rules;
      last = search rules;
    })

pub returns : goal.returns
returns g c = record {
  bytes = Wrote-all _ _ _ _ c.loop-place.invariant.wrote (flow_lines-all c.args.net.now.arcs c.args.flow.now c.loop-place.place (omega arith));
  failed = search rules;
  flushed = search rules;
  last = search rules;
}
