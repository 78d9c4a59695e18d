-- The numbers of refused steps.
use Rattle.std.specs.Prelude.{◌≡◌, ◌↔◌, ℕ, Bool, Result, Ok, Err, if◌then◌else◌}
use Rattle.dimacs_text.specs.declared.command_fault.CommandFault.TheVariants as command
use Rattle.dimacs_text.specs.CommandFault.{number_of as number_in_command}
use Rattle.session.specs.declared.refusal.Refusal.{Refusal}
use Rattle.session.specs.declared.refusal.Refusal.TheVariants as edits
use Rattle.session.specs.declared.refusal.StepRefusal.{StepRefusal}
use Rattle.session.specs.declared.refusal.StepRefusal.TheVariants as refusal

-- a line or an edit that is refused keeps its number
abbrev pub number_of : StepRefusal → ℕ
number_of (refusal.Cause number) = number
number_of refusal.NothingToUndo = 25
number_of refusal.NothingToRedo = 26
number_of refusal.NoSuchMark = 28
number_of refusal.OutOfPlace = number_in_command command.OutOfPlace
number_of refusal.Memory = 30
number_of refusal.TooManyMarks = 33

-- refused edits, as a refused step
abbrev pub of_edits : Refusal → StepRefusal
of_edits (edits.Cause number) = refusal.Cause number
of_edits edits.Memory = refusal.Memory

-- a cause is given exactly where the network refuses, by the same number
abbrev pub RefusesAs : {N T : Type 0} → Result N ℕ → Result T Refusal → Type 0
RefusesAs checked result = (number : ℕ) → (result ≡ Err (edits.Cause number)) ↔ (checked ≡ Err number)

-- nothing more to tell where it can be done, and else the number of the refusal
abbrev pub ok_or : StepRefusal → Bool → Result (Unit {0}) ℕ
ok_or refused can = if can then Ok tt else Err (number_of refused)
