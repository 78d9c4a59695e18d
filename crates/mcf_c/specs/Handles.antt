-- What stands behind a handle.
use Rattle.std.specs.Prelude.{◌≡◌, ℕ, ℤ, pos, Bool, IfSome, List, MatchOption, Option, None, Some}
use Rattle.std.specs.Option.{option_map, unwrap_or}
use Rattle.c_calls.specs.declared.status.TheConstants.{CLOSED}
use Rattle.c_calls.specs.Library.{given_of}
use Rattle.dimacs_lines.specs.Lines.{Line}
use Rattle.dimacs_text.specs.Group.{Gathered}
use Rattle.flow_solver.specs.Moment.{Moment}
use Rattle.session.specs.Step.{SessionState, state_of}
use Rattle.session.specs.Turns.{gathered_in}
use Rattle.mcf_c.specs.declared.handle.Handle.{Handle}
use Rattle.mcf_c.specs.declared.plan.Plan.{Plan}

-- the state of the session behind a handle, where it is open
abbrev pub state_behind : Handle → Option SessionState
state_behind handle = option_map (λ plan. state_of plan.session) handle.pointer.plan

-- what the lines of the group that stands open there have given, if one does
abbrev pub group_in : Option Plan → Option Gathered
group_in None = None
group_in (Some plan) = plan.group

abbrev pub group_behind : Handle → Option Gathered
group_behind handle = group_in handle.pointer.plan

-- the group that stands open there holds these lines, where the handle is open
abbrev pub HoldsLines : Handle → Option (List Line) → Type 0
HoldsLines handle opened = IfSome (state_behind handle) (λ s. group_behind handle ≡ gathered_in s opened)

-- they are the same lines after as before, where they were so
abbrev pub KeepsLines : Handle → Handle → Type 0
KeepsLines old new = (opened : Option (List Line)) → HoldsLines old opened → HoldsLines new opened

-- a closed handle stays so, and this is told; an open one stays open, and goes from its state to the new one
abbrev pub Goes : Handle → ℤ → Handle → (SessionState → ℕ → SessionState → Type 0) → Type 0
Goes old status new Step =
    MatchOption (state_behind old) ((status ≡ CLOSED) × (state_behind new ≡ None))
    (λ before. (number : ℕ) × (status ≡ pos number) × (after : SessionState) × (state_behind new ≡ Some after) × Step before number after)

-- this holds of the session behind a handle, where it is open; of its present moment
abbrev pub AtSession : Handle → (SessionState → Type 0) → Type 0
AtSession handle Holds = IfSome (state_behind handle) Holds

abbrev pub AtPresent : Handle → (Moment → Type 0) → Type 0
AtPresent handle Holds = AtSession handle (λ s. Holds s.moments.present)

-- what is told of a list of the present moment, for a room of this length
abbrev pub given_behind : Handle → (Moment → Bool) → (Moment → ℕ) → ℕ → ℤ
given_behind handle there count room = unwrap_or (option_map (λ s. given_of s.moments.present there count room) (state_behind handle)) CLOSED
