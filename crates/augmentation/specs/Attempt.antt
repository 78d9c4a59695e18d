-- The tables in which proposals are made and tried, and what they keep of a flow that is led to a proposal.
use Rattle.std.specs.Prelude.{◌≡◌, ℕ, ℤ, List}
use Rattle.residual_graph.specs.Graph.{GraphView}
use Rattle.tracked.specs.Journal.{IsSince}
use Rattle.augmentation.specs.declared.attempt.Attempt.{Attempt}
use Rattle.flow_changes.specs.Exchange.{AreExchanged, IsTrialFor, flow_before}

-- the tables have one entry a node
pub record IsAttemptFor (entries : ℕ) (a : Attempt) : Type 0 where
  pub proposals : a.proposals ≡ entries
  pub trial : IsTrialFor entries a.trial

-- flow x with excess e is changed to flow y with excess f, n units are moved, and an attempt remembers what stood there
pub record AreLed (g : GraphView) (a : Attempt) (x e y f : List ℤ) (n : ℕ) : Type 0 where
  pub exchange : AreExchanged g x e y f n
  pub flow_before : flow_before a.wanted.changes.items y ≡ x
  pub excess_since : IsSince a.trial.excess e f
