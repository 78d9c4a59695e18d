-- A line that was taken, and what was written of it.
use Rattle.std.proofs.Common.{◌≡◌, List, [], ◌∷◌, length, Option, None, Some, Result, Ok, Err, OnOk, refl, sym, append-nil}
use Rattle.std.proofs.KnownBytes.{Appends-nil}
use Rattle.dimacs_io.specs.Device.{CountsFlush, WritesUpTo}
use Rattle.dimacs_text.specs.Group.{Gathered}
use Rattle.dimacs_text.specs.Turns.{Turn}
use Rattle.dimacs_lines.specs.Lines.{Line}
use Rattle.session.specs.Step.{Reply, SessionState}
use Rattle.session.specs.Turns.{TakesLine, TakesTurns, turns_by}
use Rattle.engines.specs.Printing.{reply_text}
use Rattle.engines.specs.Run.{AnswersTurns}
use Rattle.engines.specs.Serving.{Output, ServesLine}
use Rattle.engines.proofs.FlushLemmas.{RisesBy-none, flushes_one}

nothing_answered : (turns : List Turn) (old new : SessionState) → TakesTurns turns old None new → AnswersTurns old turns [] new
nothing_answered [] old new same = record { texts = []; run = same; written_is = refl }
nothing_answered (turn ∷ []) old new taken = absurd taken
nothing_answered (turn ∷ next ∷ turns) old new taken = absurd taken

turn_answered : (turns : List Turn) (old new : SessionState) (reply : Reply) → TakesTurns turns old (Some reply) new
    → AnswersTurns old turns (reply_text reply new.moments.present) new
turn_answered (turn ∷ []) old new reply taken = record {
  texts = reply_text reply new.moments.present ∷ [];
  run = (new, reply, taken, refl, refl);
  written_is = sym (append-nil (reply_text reply new.moments.present));
}
turn_answered _ old new reply taken = absurd taken

no_turn : (turns : List Turn) (old new : SessionState) → TakesTurns turns old None new → length turns ≡ 0
no_turn [] old new same = refl
no_turn (turn ∷ []) old new taken = absurd taken
no_turn (turn ∷ next ∷ turns) old new taken = absurd taken

one_turn : (turns : List Turn) (old new : SessionState) (reply : Reply) → TakesTurns turns old (Some reply) new → length turns ≡ 1
one_turn (turn ∷ []) old new reply taken = refl
one_turn _ old new reply taken = absurd taken

on_ok : {T E P : Type 0} (r : Result T E) → P → OnOk r P
on_ok (Ok v) p = p
on_ok (Err e) p = tt

-- no turn is whole
pub serves_nothing : {E : Type 0} (old new : SessionState) (opened : Option (List Line)) (line : Line) (group : Option Gathered) (known : Output)
    → TakesLine old opened line None new group → ServesLine {E = E} (Ok tt) old opened line new group known known
serves_nothing old new opened line group known takes = record {
  text = [];
  answers = nothing_answered (turns_by opened line).whole old new takes.steps;
  writes = Appends-nil known.contents;
  flushed = RisesBy-none _ _ _ (no_turn (turns_by opened line).whole old new takes.steps) refl;
  holds = takes.holds;
}

-- a turn is whole, and up to its reply was written
pub serves_reply : {E : Type 0} (r : Result (Unit {0}) E) (old new : SessionState) (opened : Option (List Line)) (line : Line) (group : Option Gathered) (reply : Reply)
    (before after : Output) → TakesLine old opened line (Some reply) new group → WritesUpTo r before.contents after.contents (reply_text reply new.moments.present)
    → CountsFlush r before.flushes after.flushes
    → ServesLine r old opened line new group before after
serves_reply r old new opened line group reply before after takes writes flushes = record {
  text = reply_text reply new.moments.present;
  answers = turn_answered (turns_by opened line).whole old new reply takes.steps;
  writes = writes;
  flushed = flushes_one r (turns_by opened line).whole before.flushes after.flushes (one_turn (turns_by opened line).whole old new reply takes.steps) flushes;
  holds = on_ok r takes.holds;
}
