use Rattle.std.proofs.Common.{[], ◌++◌, take, refl, arith, rules}
use Rattle.std.proofs.lemmas.Result.{err_from_is_err_and}
use Rattle.runs.proofs.SourceLemmas.{GivesAndLogs-nil, GivesAndLogs-more, GivesAndLogs-none}
use Rattle.runs.proofs.ReadLemmas.{fault_at_end, fault_decided}
use Rattle.runs.proofs.read.read_text.Goals as goal

pub pieces-init : goal.pieces-init
pieces-init g c = record {
  so_far = ([], GivesAndLogs-nil _ _ _, λ setting stands undecided. (undecided, stands));
  failures = refl;
}

pub pieces-preserved : goal.pieces-preserved
pieces-preserved g c =
    let so_far = c.pieces.invariant.so_far in
    let piece = take c.in_ok-count.count c.read.new.piece in
    record {
      so_far = (
        so_far.0 ++ piece,
        GivesAndLogs-more _ _ _ so_far.0 c.read.new.piece c.in_ok-count.count _ _ _ _ _ _ so_far.1 c.in_ok-count.ensures.bytes.0 (search rules) c.in_ok-count.ensures.left c.in_ok-count.ensures.given,
        λ setting stands undecided. c.in_ok-take_piece.ensures setting so_far.0 (so_far.2 setting stands undecided).1,
      );
      failures = search rules;
    }

pub returns-in_err-take_piece-clause-read : goal.returns-in_err-take_piece-clause-read
returns-in_err-take_piece-clause-read g c =
    let p = err_from_is_err_and c.from_residual-in_err-take_piece.result c.from_residual-in_err-take_piece.ensures.1 in
    let so_far = c.pieces.invariant.so_far in
    let piece = take c.in_ok-count.count c.read.new.piece in (
      so_far.0 ++ piece,
      GivesAndLogs-more _ _ _ so_far.0 c.read.new.piece c.in_ok-count.count _ _ _ _ _ _ so_far.1 c.in_ok-count.ensures.bytes.0 (search rules) c.in_ok-count.ensures.left c.in_ok-count.ensures.given,
      λ setting stands undecided. rw (p.1, p.2) (fault_decided _ _ c.in_err-take_piece.field-0.0 _ _ _ _ (c.in_err-take_piece.ensures setting so_far.0 (so_far.2 setting stands undecided).1)),
    )

pub returns-in_err-end_text-clause-read : goal.returns-in_err-end_text-clause-read
returns-in_err-end_text-clause-read g c =
    let p = err_from_is_err_and c.from_residual-in_err-end_text.result c.from_residual-in_err-end_text.ensures.1 in
    let so_far = c.pieces.invariant.so_far in (
      so_far.0,
      GivesAndLogs-none _ _ _ so_far.0 c.read.new.piece c.in_ok-count.count _ _ _ _ _ _ so_far.1 c.in_ok-count.ensures.bytes.0 (omega arith) c.in_ok-count.ensures.left c.in_ok-count.ensures.given,
      λ setting stands undecided. rw (p.1, p.2) (fault_at_end _ _ c.in_err-end_text.field-0.0 _ _ _ (c.in_ok-count.ensures.bytes.1 (omega arith) (search rules), c.in_ok-count.ensures.ended.1 (omega arith, search rules)) (c.in_err-end_text.ensures setting so_far.0 (so_far.2 setting stands undecided).1)),
    )

pub returns-then-count-eq0-clause-read : goal.returns-then-count-eq0-clause-read
returns-then-count-eq0-clause-read g c =
    let so_far = c.pieces.invariant.so_far in (
      so_far.0,
      GivesAndLogs-none _ _ _ so_far.0 c.read.new.piece c.in_ok-count.count _ _ _ _ _ _ so_far.1 c.in_ok-count.ensures.bytes.0 (omega arith) c.in_ok-count.ensures.left c.in_ok-count.ensures.given,
      λ setting stands undecided. ((c.in_ok-count.ensures.bytes.1 (omega arith) (search rules), c.in_ok-count.ensures.ended.1 (omega arith, search rules)), c.in_ok-end_text.ensures setting so_far.0 (so_far.2 setting stands undecided).1),
    )
