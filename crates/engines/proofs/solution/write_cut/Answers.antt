use Rattle.std.proofs.Common.{◌+◌, refl, ap, arith, rules}
use Rattle.std.proofs.lemmas.Result.{err_from_is_err_and}
use Rattle.std.proofs.lemmas.List.{drop_all}
use Rattle.engines.specs.Printing.{cut_lines}
use Rattle.engines.proofs.PrintingLemmas.{Wrote-nothing, Wrote-more, Wrote-all, Wrote-stopped, cut_lines-step}
use Rattle.engines.proofs.solution.write_cut.Goals as goal

pub loop-place-init : goal.loop-place-init
loop-place-init g c = record { wrote = Wrote-nothing _ _; failures = refl; flushes = refl }

pub loop-place-preserved : goal.loop-place-preserved
loop-place-preserved g c =
    let step = cut_lines-step c.args.marks.now c.loop-place.place (omega arith) in
    record {
      wrote = Wrote-more _ _ _ _ _ _ _ c.loop-place.invariant.wrote step c.in_ok-write_mark.ensures.bytes;
      failures = search rules;
      flushes = search rules;
    }

pub returns-in_err-write_mark : goal.returns-in_err-write_mark
returns-in_err-write_mark g c =
    let p = err_from_is_err_and c.from_residual.result c.from_residual.ensures.1 in
    let step = cut_lines-step c.args.marks.now c.loop-place.place (omega arith) in
    rw (p.1) (record {
      bytes = Wrote-stopped _ _ _ _ _ _ _ c.loop-place.invariant.wrote step c.in_err-write_mark.ensures.bytes;
      failed = search rules;
      flushed = search rules;
      last = search rules;
    })

pub returns : goal.returns
returns g c = record {
  bytes = Wrote-all _ _ _ _ c.loop-place.invariant.wrote (ap (cut_lines (c.loop-place.place + 1)) (drop_all c.loop-place.place c.args.marks.now (omega arith)));
  failed = search rules;
  flushed = search rules;
  last = search rules;
}
