-- What a function does to the device that it is passed, each as one fact.
use Rattle.std.specs.Prelude.{◌≡◌, ℕ, List, Result, is_err}
use Rattle.std.specs.Io.{ReadsAtMost}
use Rattle.std.specs.Io.KnownBytes.{ReadConsumes}
use Rattle.dimacs_io.specs.Device.{CountsFailure, CountsFlush, EndsBy, FailsLast, Logs, LowersByCount, ReachesEnd, Writes}
use Rattle.dimacs_io.specs.declared.device.LastCall.TheVariants as last
use Rattle.dimacs_io.specs.declared.device.Sink as sink
use Rattle.dimacs_io.specs.declared.device.Source as source

-- a text was written to a sink, or its beginning where a call failed: that call is counted, and was the last. None was a flush
pub record WritesText {O T E : Type 0} (device : sink.Ghosts O) (result : Result T E) (old new : O) (text : List ℕ) : Type 0 where
  pub bytes : Writes device.contents result old new text
  pub failed : CountsFailure result (device.failures old) (device.failures new)
  pub flushed : device.flushes new ≡ device.flushes old
  pub last : FailsLast result (device.last_call new)

-- a text was written to a sink and then passed on by one flush, or a call failed: that call is counted, and was the last
pub record PassesText {O T E : Type 0} (device : sink.Ghosts O) (result : Result T E) (old new : O) (text : List ℕ) : Type 0 where
  pub bytes : Writes device.contents result old new text
  pub failed : CountsFailure result (device.failures old) (device.failures new)
  pub flushed : CountsFlush result (device.flushes old) (device.flushes new)
  pub last : EndsBy result last.Flush (device.last_call new)

-- one read of a source, whose bytes stand at the front of a piece
pub record ReadsPiece {S E : Type 0} (device : source.Ghosts S) (result : Result ℕ E) (old new : S) (piece : List ℕ) : Type 0 where
  pub bound : ReadsAtMost result piece
  pub bytes : ReadConsumes (device.remaining old) (device.remaining new) result piece
  pub given : Logs result (device.given old) (device.given new) piece
  pub left : LowersByCount result (device.most_left old) (device.most_left new)
  pub failed : CountsFailure result (device.failures old) (device.failures new)
  pub last : device.last_failed new ≡ is_err result
  pub ended : ReachesEnd result piece (device.ended new)
