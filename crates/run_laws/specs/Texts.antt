-- Texts that are the same but for the numbers of `f` lines.
use Rattle.std.specs.Prelude.{◌≡◌, ◌≢◌, ℕ, ℤ, List, ◌++◌, ◌⊎◌}
use Rattle.std.specs.List.{AllZip, concat}
use Rattle.dimacs_io.specs.Line.{flow_line, refusal_line}
use Rattle.session.specs.declared.refusal.StepRefusal.TheVariants as refusal
use Rattle.session.specs.Refusal.{number_of}

-- two `f` lines with the same ends
pub record AreFlowLines (line other : List ℕ) : Type 0 where
  pub tail : ℕ
  pub head : ℕ
  pub flow : ℤ
  pub other_flow : ℤ
  pub line_is : line ≡ flow_line tail head flow
  pub other_is : other ≡ flow_line tail head other_flow

-- the same bytes, or two `f` lines with the same ends
abbrev pub ArePiecesAlike : List ℕ → List ℕ → Type 0
ArePiecesAlike piece other = (other ≡ piece) ⊎ AreFlowLines piece other

-- the same bytes but for the numbers of `f` lines: joined of as many pieces, which are alike in turn
pub record DifferInFlows (text other : List ℕ) : Type 0 where
  pub pieces : List (List ℕ)
  pub other_pieces : List (List ℕ)
  pub text_is : text ≡ concat pieces
  pub other_is : other ≡ concat other_pieces
  pub alike : AllZip ArePiecesAlike pieces other_pieces

-- the line that tells that memory was refused stands nowhere in the text
abbrev pub TellsNoWantOfMemory : List ℕ → Type 0
TellsNoWantOfMemory text = (before after : List ℕ) → text ≢ before ++ refusal_line (number_of refusal.Memory) ++ after
