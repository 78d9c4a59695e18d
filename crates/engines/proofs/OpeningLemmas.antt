-- What a run that ends without a session has counted.
use Rattle.std.proofs.Common.{◌≡◌, ℕ, false, List, Option, inl, inr, refl}
use Rattle.dimacs_lines.specs.declared.fault.TextFault.TheVariants as text_fault
use Rattle.runs.specs.declared.end.Text.TheVariants as the
use Rattle.runs.specs.declared.end.End.{End}
use Rattle.runs.specs.declared.read.ReadError.{ReadError}
use Rattle.runs.specs.declared.read.ReadError.TheVariants as read_error
use Rattle.dimacs_io.specs.Device.{RisesBy}
use Rattle.runs.specs.Devices.{UsesSink, command_failures, commands_whole, flushes_by}
use Rattle.runs.specs.Reading.{error_end}
use Rattle.dimacs_io.specs.declared.device.Sink as sink
use Rattle.engines.specs.Opening.{EndsWithoutSession}
use Rattle.runs.proofs.SourceLemmas.{UsesSink-memory, UsesSink-problem}
use Rattle.engines.proofs.FlushLemmas.{RisesBy-none}

unread : (e : ReadError) → (command_failures (error_end the.Problem e) ≡ 0) × (commands_whole (error_end the.Problem e) ≡ false) × (flushes_by (error_end the.Problem e) ≡ 0)
unread (read_error.Text text_fault.Memory) = (refl, refl, refl)
unread _ = (refl, refl, refl)

-- no command was read, nor the end of the commands, and nothing was flushed
pub unopened : (known : Option (List ℕ)) (count : ℕ) (end : End) → EndsWithoutSession known count end
    → (command_failures end ≡ 0) × (commands_whole end ≡ false) × (flushes_by end ≡ 0)
unopened known count end (inl ends) = rw ends.1 (unread ends.0)
unopened known count end (inr memory) = rw memory (refl, refl, refl)

pub unopened_flushes : (known : Option (List ℕ)) (count : ℕ) (end : End) (flushes : ℕ) → EndsWithoutSession known count end → RisesBy (flushes_by end) flushes flushes
unopened_flushes known count end flushes ends = RisesBy-none _ flushes flushes (unopened known count end ends).2 refl

-- the sink is as it was
pub unopened_sink : {O : Type 0} (device : sink.Ghosts O) (known : Option (List ℕ)) (count : ℕ) (end : End) (out : O) → EndsWithoutSession known count end → UsesSink device end out out
unopened_sink device known count end out (inl ends) = rw ends.1 (UsesSink-problem device ends.0 out)
unopened_sink device known count end out (inr memory) = rw memory (UsesSink-memory device out)
