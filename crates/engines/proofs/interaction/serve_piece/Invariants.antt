use Rattle.std.proofs.Common.{◌≡◌, ◌≤◌, ◌-◌, ℕ, List, ◌++◌, length, take}
use Rattle.dimacs_io.specs.declared.device.LastCall.TheVariants as last
use Rattle.session.specs.Step.{SessionState, state_of}
use Rattle.engines.specs.Serving.{Output, Stands, output_of}
use Rattle.engines.proofs.interaction.serve_piece.Given as goal

abbrev pub invariant-loop-at : goal.invariant-loop-at
invariant-loop-at g l = record {
  within : l.at ≤ length l.piece;
  stands : (opening : SessionState) (given : List ℕ) (before : Output)
      → Stands opening given (state_of l.initial.session) l.initial.group l.initial.cutter before (output_of g.O.Sink l.initial.out)
      → Stands opening (given ++ take l.at l.piece) (state_of l.session) l.group l.cutter before (output_of g.O.Sink l.out);
  failures : g.O.Sink.failures l.out ≡ g.O.Sink.failures l.initial.out;
  passed_on : g.O.Sink.last_call l.initial.out ≡ last.Flush → g.O.Sink.last_call l.out ≡ last.Flush;
}

abbrev pub decreases-loop-at : goal.decreases-loop-at
decreases-loop-at g l = length l.piece - l.at
