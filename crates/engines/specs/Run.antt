-- Runs of a session over the turns of a command text: over its lines, and over its groups.
use Rattle.std.specs.Prelude.{◌≡◌, ℕ, List, [], ◌∷◌, filter, length}
use Rattle.std.specs.List.{concat}
use Rattle.dimacs_lines.specs.Lines.{Line}
use Rattle.dimacs_text.specs.Turns.{Turn, Turns, turns_of}
use Rattle.session.specs.Step.{Reply, SessionState, TurnStep}
use Rattle.session.specs.Turns.{asks}
use Rattle.engines.specs.Printing.{reply_text}

-- the turns of those of the lines that ask; a group that they do not end is no turn
abbrev pub turns_in : List Line → Turns
turns_in lines = turns_of (filter asks lines)

-- how many replies lines have: one a turn
abbrev pub reply_count : List Line → ℕ
reply_count lines = length (turns_in lines).whole

-- one step a turn, none left out, each with the text of its reply
abbrev pub Run : SessionState → List Turn → List (List ℕ) → SessionState → Type 0
Run old [] [] new = new ≡ old
Run old [] (text ∷ texts) new = ⊥
Run old (turn ∷ turns) [] new = ⊥
Run old (turn ∷ turns) (text ∷ texts) new =
    (mid : SessionState) × (reply : Reply) × TurnStep old turn reply mid × (text ≡ reply_text reply mid.moments.present) × Run mid turns texts new

-- a run over these turns, whose texts joined are what is written
pub record AnswersTurns (old : SessionState) (turns : List Turn) (written : List ℕ) (new : SessionState) : Type 0 where
  pub texts : List (List ℕ)
  pub run : Run old turns texts new
  pub written_is : written ≡ concat texts

-- a run over the turns of these lines
abbrev pub Answers : SessionState → List Line → List ℕ → SessionState → Type 0
Answers old lines written new = AnswersTurns old (turns_in lines).whole written new
