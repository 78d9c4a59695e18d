-- How far edits move the flows of arcs that they do not name.
use Rattle.std.specs.Prelude.{◌≡◌, ◌≢◌, ℕ, ◌≤◌, pos, ◌-ℤ◌, ◌≤ℤ◌, ℤ, List, [], ◌∷◌, ◌++◌, length, All, unsigned_abs}
use Rattle.dimacs_text.specs.declared.command.Edit.{Edit}
use Rattle.network.specs.Edited.{arc_of}
use Rattle.network.specs.Instance.{Instance}
use Rattle.flow_solver.specs.Answer.{IsAnswered}
use Rattle.flow_solver.specs.Edit.{ChangeAllTo, arc_flow}
use Rattle.flow_solver.specs.Moment.{Moment}

-- an arc, and no edit is of it
pub record IsLeftOut (I : Instance) (edits : List Edit) (k : ℕ) : Type 0 where
  pub arc : (1 ≤ k) × (k ≤ length I.arcs)
  pub unnamed : All (λ edit. arc_of edit ≢ k) edits

-- from the one moment to the other the flow of arc k changes by no more than so many units
abbrev pub MovesWithin : ℤ → ℕ → Moment → Moment → Type 0
MovesWithin units k m n = pos (unsigned_abs (arc_flow n k -ℤ arc_flow m k)) ≤ℤ units

-- groups of edits, one after the other, lead from the one moment to the other, each to an answered one
abbrev pub LeadThrough : List (List Edit) → Moment → Moment → Type 0
LeadThrough [] m n = n ≡ m
LeadThrough (edits ∷ groups) m n = (between : Moment) × (pushes : ℕ) × IsAnswered between × ChangeAllTo edits m between pushes × LeadThrough groups between n

-- the edits of all the groups, in order
abbrev pub edits_of : List (List Edit) → List Edit
edits_of [] = []
edits_of (edits ∷ groups) = edits ++ edits_of groups
