use Rattle.std.proofs.Common.{[], ◌++◌, take, inl, inr, refl, ◌∙◌, arith, rules}
use Rattle.runs.proofs.SourceLemmas.{GivesAndLogs-nil, GivesAndLogs-more, GivesAndLogs-none}
use Rattle.engines.proofs.RunLemmas.{Stands-begin, err_from, ok_from}
use Rattle.engines.proofs.interaction.serve_commands.Goals as goal

pub pieces-init : goal.pieces-init
pieces-init g c = record {
  so_far = ([], GivesAndLogs-nil _ _ _, rw (c.new-cutter.ensures) (Stands-begin _ _));
  script_failures = refl;
  out_failures = refl;
  passed_on = c.requires.passed_on;
}

pub returns-then-is_err-clause-served : goal.returns-then-is_err-clause-served
returns-then-is_err-clause-served g c =
    let so_far = c.pieces.invariant.so_far in
    let piece = take c.in-Ok.count c.read_on.new.piece in (
      so_far.0 ++ piece,
      GivesAndLogs-more _ _ _ so_far.0 c.read_on.new.piece c.in-Ok.count _ _ _ _ _ _ so_far.1 c.in-Ok.ensures.bytes.0 (search rules) c.in-Ok.ensures.left c.in-Ok.ensures.given,
      inl (rw (err_from c.serve_piece.result (search rules)).1 at (c.serve_piece.ensures.goes_on _ _ _ so_far.2)),
    )

pub pieces-preserved : goal.pieces-preserved
pieces-preserved g c =
    let so_far = c.pieces.invariant.so_far in
    let fine = (ok_from c.serve_piece.result (search rules)).1 in
    let piece = take c.in-Ok.count c.read_on.new.piece in
    record {
      so_far = (
        so_far.0 ++ piece,
        GivesAndLogs-more _ _ _ so_far.0 c.read_on.new.piece c.in-Ok.count _ _ _ _ _ _ so_far.1 c.in-Ok.ensures.bytes.0 (search rules) c.in-Ok.ensures.left c.in-Ok.ensures.given,
        rw fine at (c.serve_piece.ensures.goes_on _ _ _ so_far.2),
      );
      script_failures = search rules;
      out_failures = rw fine at c.serve_piece.ensures.passed_on.failed ∙ c.pieces.invariant.out_failures;
      passed_on = (rw fine at c.serve_piece.ensures.passed_on.stays) c.pieces.invariant.passed_on;
    }

pub returns-in-Ok-serve_rest-clause-served : goal.returns-in-Ok-serve_rest-clause-served
returns-in-Ok-serve_rest-clause-served g c =
    let so_far = c.pieces.invariant.so_far in (
      so_far.0,
      GivesAndLogs-none _ _ _ so_far.0 c.read_on.new.piece c.in-Ok-eq0.field-0 _ _ _ _ _ _ so_far.1 c.in-Ok-eq0.ensures.bytes.0 (omega arith) c.in-Ok-eq0.ensures.left c.in-Ok-eq0.ensures.given,
      (c.in-Ok-eq0.ensures.bytes.1 (omega arith) (search rules), _, c.in-Ok-serve_rest.ensures.rest _ _ _ so_far.2),
    )

pub returns-in-Err-serve_rest-clause-served : goal.returns-in-Err-serve_rest-clause-served
returns-in-Err-serve_rest-clause-served g c =
    let so_far = c.pieces.invariant.so_far in (
      so_far.0,
      GivesAndLogs-none _ _ _ so_far.0 c.read_on.new.piece c.in-Ok-eq0.field-0 _ _ _ _ _ _ so_far.1 c.in-Ok-eq0.ensures.bytes.0 (omega arith) c.in-Ok-eq0.ensures.left c.in-Ok-eq0.ensures.given,
      inr (c.in-Ok-eq0.ensures.bytes.1 (omega arith) (search rules), c.in-Err-serve_rest.ensures.rest _ _ _ so_far.2),
    )

pub returns-in-Err-clause-served : goal.returns-in-Err-clause-served
returns-in-Err-clause-served g c = search rules

pub returns-then-is_err-clause-out_last : goal.returns-then-is_err-clause-out_last
returns-then-is_err-clause-out_last g c before = rw (err_from c.serve_piece.result (search rules)).1 at c.serve_piece.ensures.passed_on.stays

-- ---- what was given before stays, and the end was reached where the commands ended

pub returns-then-is_err-clause-script : goal.returns-then-is_err-clause-script
returns-then-is_err-clause-script g c =
    let served = returns-then-is_err-clause-served g c in
    record {
      read = record { grows = (served.0, served.1.log); ends = λ all. absurd cc };
      failed = search rules;
      last = λ one. absurd (omega (arith, one));
    }

pub returns-in-Ok-serve_rest-clause-script : goal.returns-in-Ok-serve_rest-clause-script
returns-in-Ok-serve_rest-clause-script g c =
    let served = returns-in-Ok-serve_rest-clause-served g c in
    record {
      read = record { grows = (served.0, served.1.log); ends = λ all. c.in-Ok-eq0.ensures.ended.1 (omega arith, search rules) };
      failed = search rules;
      last = λ one. absurd (omega (arith, one));
    }

pub returns-in-Err-serve_rest-clause-script : goal.returns-in-Err-serve_rest-clause-script
returns-in-Err-serve_rest-clause-script g c =
    let served = returns-in-Err-serve_rest-clause-served g c in
    record {
      read = record { grows = (served.0, served.1.log); ends = λ all. absurd cc };
      failed = search rules;
      last = λ one. absurd (omega (arith, one));
    }

pub returns-in-Err-clause-script : goal.returns-in-Err-clause-script
returns-in-Err-clause-script g c =
    let served = returns-in-Err-clause-served g c in
    record {
      read = record { grows = (served.0, served.1.log); ends = λ all. absurd cc };
      failed = search rules;
      last = λ one. c.in-Err.ensures.last;
    }
