-- Excesses with a list of the nodes out of balance.
use Rattle.std.specs.Prelude.{◌≡◌, ℕ, ℤ, pos, List, length, Bool, false}
use Rattle.residual_graph.specs.Residual.{number_at}
use Rattle.tracked.specs.Marks.{in_set}

-- a node is listed unless it has neither excess nor deficit
abbrev pub IsBalancedOrListed : List Bool → List ℤ → ℕ → Type 0
IsBalancedOrListed listed e v = in_set listed v ≡ false → number_at e v ≡ pos 0

-- every node out of balance is listed: an unlisted one has neither excess nor deficit
pub record AreUnbalancedListed (listed : List Bool) (e : List ℤ) : Type 0 where
  pub one_a_node : length listed ≡ length e
  pub balanced : (v : ℕ) → IsBalancedOrListed listed e v
