use Rattle.std.proofs.Common.{◌+◌, refl, ap, arith, rules}
use Rattle.std.proofs.lemmas.Result.{err_from_is_err_and}
use Rattle.std.proofs.lemmas.List.{drop_all}
use Rattle.engines.specs.Printing.{potential_lines}
use Rattle.engines.proofs.PrintingLemmas.{Wrote-nothing, Wrote-more, Wrote-all, Wrote-stopped, potential_lines-step}
use Rattle.engines.proofs.solution.write_potentials.Goals as goal

pub loop-place-init : goal.loop-place-init
loop-place-init g c = record { wrote = Wrote-nothing _ _; failures = refl; flushes = refl }

pub loop-place-preserved : goal.loop-place-preserved
loop-place-preserved g c =
    let step = potential_lines-step c.args.potentials.now c.loop-place.place (omega arith) in
    record {
      wrote = Wrote-more _ _ _ _ _ _ _ c.loop-place.invariant.wrote step c.in_ok-write_node.ensures.bytes;
      failures = search rules;
      flushes = search rules;
    }

pub returns-in_err-write_node : goal.returns-in_err-write_node
returns-in_err-write_node g c =
    let p = err_from_is_err_and c.from_residual.result c.from_residual.ensures.1 in
    let step = potential_lines-step c.args.potentials.now c.loop-place.place (omega arith) in
    rw (p.1) (record {
      bytes = Wrote-stopped _ _ _ _ _ _ _ c.loop-place.invariant.wrote step c.in_err-write_node.ensures.bytes;
      failed = search rules;
      flushed = search rules;
      last = search rules;
    })

pub returns : goal.returns
returns g c = record {
  bytes = Wrote-all _ _ _ _ c.loop-place.invariant.wrote (ap (potential_lines (c.loop-place.place + 1)) (drop_all c.loop-place.place c.args.potentials.now (omega arith)));
  failed = search rules;
  flushed = search rules;
  last = search rules;
}
