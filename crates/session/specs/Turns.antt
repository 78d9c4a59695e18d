-- What a line of a command text does to a session, by the turn that it makes whole.
use Rattle.std.specs.Prelude.{◌≡◌, ℕ, Bool, ◌||◌, nat_le, List, [], ◌∷◌, length, Option, None, Some, Result, if◌then◌else◌}
use Rattle.std.specs.Borrow.{Bor}
use Rattle.std.specs.Option.{option_map}
use Rattle.dimacs_lines.specs.Cut.{kept}
use Rattle.dimacs_lines.specs.Fields.{words_of}
use Rattle.dimacs_lines.specs.Lines.{Line, is_too_long}
use Rattle.dimacs_text.specs.Group.{Gathered, gathered}
use Rattle.dimacs_text.specs.Turns.{Turn, Turns, and_turn_by}
use Rattle.session.specs.declared.reply.Reply.{Reply as Given}
use Rattle.session.specs.declared.refusal.StepRefusal.{StepRefusal}
use Rattle.session.specs.Reply.{reply_of}
use Rattle.session.specs.Session.{Stack, present_kind}
use Rattle.session.specs.Step.{Reply, SessionState, TurnStep, state_of}

-- a line as it is passed: nothing where it is too long
abbrev pub IsPassedAs : Option (Bor (List ℕ)) → Line → Type 0
IsPassedAs passed line = option_map (λ l. l.now) passed ≡ kept line

-- a line asks for something where it is too long or not blank
abbrev pub asks : Line → Bool
asks line = is_too_long line || nat_le 1 (length (words_of line))

-- the turn that a line makes whole, if it does, and the group that stands open after it, where such a group stood open before it
abbrev pub turns_by : Option (List Line) → Line → Turns
turns_by opened line = if asks line then and_turn_by opened [] line else record { whole = []; opened = opened }

-- what the lines of the group that stands open have given, if one does
abbrev pub gathered_in : SessionState → Option (List Line) → Option Gathered
gathered_in s opened = option_map (gathered (present_kind s.moments) 0) opened

-- a turn that is whole is one step, with its reply; where none is, nothing changes and nothing is replied
abbrev pub TakesTurns : List Turn → SessionState → Option Reply → SessionState → Type 0
TakesTurns [] old None new = new ≡ old
TakesTurns (turn ∷ []) old (Some reply) new = TurnStep old turn reply new
TakesTurns _ old reply new = ⊥

-- a line was taken after those of the group that stood open, and the group that stands open after it holds its lines
pub record TakesLine (old : SessionState) (opened : Option (List Line)) (line : Line) (reply : Option Reply) (new : SessionState) (group : Option Gathered) : Type 0 where
  pub steps : TakesTurns (turns_by opened line).whole old reply new
  pub holds : group ≡ gathered_in new (turns_by opened line).opened

-- the same of a session, which gives this for the turn that the line makes whole
abbrev pub LineTaken : Stack → Option (List Line) → Line → Option (Result Given StepRefusal) → Stack → Option Gathered → Type 0
LineTaken old opened line given new group = TakesLine (state_of old) opened line (option_map reply_of given) (state_of new) group
