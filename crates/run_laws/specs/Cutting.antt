-- How the turns of a text are cut out of its lines.
use Rattle.std.specs.Prelude.{◌≡◌, ⊤, true, false, List, [], ◌∷◌, ◌++◌, Option, Some, None}
use Rattle.dimacs_lines.specs.Lines.{Line}
use Rattle.dimacs_text.specs.Command.{opens_group, ends_group}
use Rattle.dimacs_text.specs.Turns.{Turn, OfLine, OfGroup}

-- none of the lines is `end`
abbrev pub NoneEnds : List Line → Type 0
NoneEnds [] = ⊤
NoneEnds (line ∷ lines) = (ends_group line ≡ false) × NoneEnds lines

-- a line `group` and the lines after it, of which none is `end`
pub record IsLeftOpen (inside lines : List Line) : Type 0 where
  pub opening : Line
  pub opens : opens_group opening ≡ true
  pub none_ends : NoneEnds inside
  pub lines_are : lines ≡ opening ∷ inside

-- the lines begin with one that is no `group`, and then come others
pub record IsSingle (line : Line) (others lines : List Line) : Type 0 where
  pub no_group : opens_group line ≡ false
  pub lines_are : lines ≡ line ∷ others

-- the lines begin with `group`, others of which none is `end`, and `end`, and then come others
pub record IsBracketed (inside others lines : List Line) : Type 0 where
  pub opening : Line
  pub ending : Line
  pub opens : opens_group opening ≡ true
  pub none_ends : NoneEnds inside
  pub ends : ends_group ending ≡ true
  pub lines_are : lines ≡ opening ∷ inside ++ ending ∷ others

-- the lines are those of the turns, one after the other, and then those of the group that is left open, if one is
abbrev pub AreCut : List Turn → Option (List Line) → List Line → Type 0
AreCut [] None lines = lines ≡ []
AreCut [] (Some inside) lines = IsLeftOpen inside lines
AreCut (OfLine line ∷ turns) opened lines = (others : List Line) × IsSingle line others lines × AreCut turns opened others
AreCut (OfGroup inside ∷ turns) opened lines = (others : List Line) × IsBracketed inside others lines × AreCut turns opened others
