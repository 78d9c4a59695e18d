-- How a run opens its session.
use Rattle.std.specs.Prelude.{◌≡◌, ℕ, ◌-◌, true, List, [], ◌⊎◌, Option, Ok, Err}
use Rattle.dimacs_io.specs.Device.{text_over}
use Rattle.dimacs_io.specs.declared.device.Source as source
use Rattle.dimacs_lines.specs.Stream.{decided}
use Rattle.dimacs_text.specs.Reading.{ProblemValue, problem_rule, reads}
use Rattle.network.specs.Instance.{first}
use Rattle.session.specs.Step.{SessionState}
use Rattle.runs.specs.declared.end.Text.TheVariants as the
use Rattle.runs.specs.declared.end.End.{End}
use Rattle.runs.specs.declared.end.End.TheVariants.{Memory}
use Rattle.runs.specs.declared.read.ReadError.{ReadError}
use Rattle.runs.specs.Devices.{UsesSource, problem_failures, problem_whole}
use Rattle.runs.specs.Reading.{ReadsKnown, error_end}
use Rattle.engines.specs.Solve.{IsSettled}

-- a session on a problem, with room for so many arcs more, begins with an answer to it, with nothing to undo or redo, and without marks
pub record Opens (problem : ProblemValue) (extra : ℕ) (opening : SessionState) : Type 0 where
  pub past : opening.moments.past ≡ []
  pub settled : IsSettled (first problem extra) opening.moments.present
  pub future : opening.moments.future ≡ []
  pub marks : opening.marks ≡ []

-- a problem was read, and a session on it begins
pub record IsOpened (known : Option (List ℕ)) (count extra : ℕ) (opening : SessionState) : Type 0 where
  pub problem : ProblemValue
  pub problem_read : ReadsKnown (decided problem_rule) reads (Ok problem) known count
  pub opens : Opens problem extra opening

-- the run ends without a session: no problem was read, or memory was refused
abbrev pub EndsWithoutSession : Option (List ℕ) → ℕ → End → Type 0
EndsWithoutSession known count end =
    ((error : ReadError) × (end ≡ error_end the.Problem error) × ReadsKnown (decided problem_rule) reads (Err error) known count) ⊎ (end ≡ Memory)

-- the session that was opened on what a source gave, all of which was read
pub record OpensOn {P : Type 0} (device : source.Ghosts P) (old new : P) (extra : ℕ) (opening : SessionState) : Type 0 where
  pub opened : IsOpened (text_over device.remaining device.given old new) (device.most_left old - device.most_left new) extra opening
  pub source : UsesSource device true 0 old new

-- the run ended without a session on what a source gave
pub record EndsUnopened {P : Type 0} (device : source.Ghosts P) (old new : P) (end : End) : Type 0 where
  pub ended : EndsWithoutSession (text_over device.remaining device.given old new) (device.most_left old - device.most_left new) end
  pub source : UsesSource device (problem_whole end) (problem_failures end) old new
