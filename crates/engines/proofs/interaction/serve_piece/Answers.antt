use Rattle.std.proofs.Common.{◌++◌, ◌+◌, ◌∙◌, true, false, Ok, take, drop, refl, arith, rules}
use Rattle.std.proofs.lemmas.List.{take_all, take_rest}
use Rattle.std.proofs.lemmas.Result.{err_from_is_err_and}
use Rattle.dimacs_lines.specs.Cut.{CutsLine}
use Rattle.engines.proofs.LineLemmas.{append_take_add, append_take_rest, used_more}
use Rattle.engines.proofs.RunLemmas.{Stands-partial, GoesOn-complete, Stopped-append}
use Rattle.engines.proofs.interaction.serve_piece.Goals as goal

pub loop-at-preserved-then-not-complete : goal.loop-at-preserved-then-not-complete
loop-at-preserved-then-not-complete g c = record {
  within = used_more c.args.piece.now c.loop-at.at c.take-used.result.0 (omega arith) (rw take_rest at c.take-used.ensures.used);
  stands = λ opening given before stands.
      let piece = c.args.piece.now in
      let so_far = c.loop-at.invariant.stands opening given before stands in
      let text = given ++ take c.loop-at.at piece in
      let longer = text ++ take c.take-used.result.0 (drop c.loop-at.at piece) in
      let cuts : CutsLine c.loop-at.cutter c.take-used.new.self false text longer = rw (c.if-not-complete.true, take_rest) at (c.take-used.ensures.text text so_far.holds) in
      let grown = append_take_add given piece c.loop-at.at c.take-used.result.0 in
      rw grown at (Stands-partial opening _ _ text longer c.loop-at.cutter c.take-used.new.self before _ so_far cuts);
  failures = search rules;
  passed_on = c.loop-at.invariant.passed_on;
}

pub loop-at-preserved : goal.loop-at-preserved
loop-at-preserved g c = record {
  within = used_more c.args.piece.now c.loop-at.at c.take-used.result.0 (omega arith) (rw take_rest at c.take-used.ensures.used);
  stands = λ opening given before stands.
      let piece = c.args.piece.now in
      let so_far = c.loop-at.invariant.stands opening given before stands in
      let text = given ++ take c.loop-at.at piece in
      let longer = text ++ take c.take-used.result.0 (drop c.loop-at.at piece) in
      let cuts : CutsLine c.loop-at.cutter c.take-used.new.self true text longer = rw (c.if-not-complete.false, take_rest) at (c.take-used.ensures.text text so_far.holds) in
      let served = c.in_ok-serve_line.ensures.served cuts.line (c.line.ensures ∙ cuts.shown refl) _ so_far.gathers in
      let grown = append_take_add given piece c.loop-at.at c.take-used.result.0 in
      rw grown at (GoesOn-complete (Ok c.in_ok-serve_line.field-0) opening _ _ _ text longer c.loop-at.cutter c.take-used.new.self before _ _ so_far.answered cuts served);
  failures = search rules;
  passed_on = λ first. c.in_ok-serve_line.ensures.passed_on.stays (c.loop-at.invariant.passed_on first);
}

pub returns-in_err-serve_line-clause-goes_on : goal.returns-in_err-serve_line-clause-goes_on
returns-in_err-serve_line-clause-goes_on g c opening given before stands =
    let p = err_from_is_err_and c.from_residual.result c.from_residual.ensures.1 in
    let piece = c.args.piece.now in
    let so_far = c.loop-at.invariant.stands opening given before stands in
    let text = given ++ take c.loop-at.at piece in
    let longer = text ++ take c.take-used.result.0 (drop c.loop-at.at piece) in
    let cuts : CutsLine c.loop-at.cutter c.take-used.new.self true text longer = rw (c.if-not-complete.false, take_rest) at (c.take-used.ensures.text text so_far.holds) in
    let served = c.in_err-serve_line.ensures.served cuts.line (c.line.ensures ∙ cuts.shown refl) _ so_far.gathers in
    let grown = append_take_add given piece c.loop-at.at c.take-used.result.0 in
    let stop = rw grown at (GoesOn-complete _ opening _ _ _ text longer c.loop-at.cutter c.take-used.new.self before _ _ so_far.answered cuts served) in
    rw (p.1)
    (Stopped-append opening (given ++ take (c.loop-at.at + c.take-used.result.0) piece) (drop (c.loop-at.at + c.take-used.result.0) piece) (given ++ piece) before _
    (append_take_rest given piece (c.loop-at.at + c.take-used.result.0)) (c.ended_lines_stay.ensures _ _) stop)

pub returns-clause-goes_on : goal.returns-clause-goes_on
returns-clause-goes_on g c opening given before stands =
    let all = take_all c.loop-at.at c.args.piece.now (omega arith) in
    rw all at (c.loop-at.invariant.stands opening given before stands)
