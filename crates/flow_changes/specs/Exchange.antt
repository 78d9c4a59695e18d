-- A flow that is changed to a wanted one at once.
use Rattle.std.specs.Prelude.{◌≡◌, ℕ, ◌+◌, ◌<◌, ◌≤◌, ℤ, ◌<ℤ◌, List, [], ◌∷◌, length, slice_set}
use Rattle.dimacs_text.specs.declared.problem.ArcRow.{ArcRow}
use Rattle.residual_graph.specs.Graph.{GraphView}
use Rattle.residual_graph.specs.Residual.{IsPseudoflow}
use Rattle.flow_changes.specs.Changes.{AreNearer, IsAcyclicChange, IsExcessAfter, IsNearer, Rises, rank_of}
use Rattle.flow_changes.specs.Push.{IsTransfer, left, part_above_0}
use Rattle.tracked.specs.Journal.{IsJournal, IsSince}
use Rattle.tracked.specs.declared.journal.Journal.{Journal}
use Rattle.flow_changes.specs.declared.trial.Trial.{Trial}
use Rattle.proposals.specs.declared.wanted.FlowChange.{FlowChange}

-- a journal has room for what stood in a table of so many entries
pub record IsJournalFor (size : ℕ) (j : Journal) : Type 0 where
  pub journal : IsJournal j
  pub room : size ≤ length j.before.items

-- a trial has room for what stands in the excess of so many nodes, and a rank for each
pub record IsTrialFor (nodes : ℕ) (d : Trial) : Type 0 where
  pub excess : IsJournalFor nodes d.excess
  pub order : d.order ≡ nodes

-- the flow before changes that led to flow y: the flow of each, which stood at its arc, is written back, the last first
abbrev pub flow_before : List FlowChange → List ℤ → List ℤ
flow_before [] y = y
flow_before (c ∷ changes) y = slice_set (flow_before changes y) c.arc c.flow

-- the table xs became ys, and journal i became j: each place was noted before it was written
pub record IsLed (i j : Journal) (xs ys : List ℤ) : Type 0 where
  pub journal : IsJournal j
  pub room : length j.before.items ≡ length i.before.items
  pub same_length : length ys ≡ length xs
  pub since : (zs : List ℤ) → IsSince i zs xs → IsSince j zs ys

-- where an arc carries y in place of x, the change leads to a node of higher rank
pub record RisesBetween (a : ArcRow) (x y : ℤ) (ranks : List ℕ) : Type 0 where
  pub more : x <ℤ y → rank_of ranks a.tail < rank_of ranks a.head
  pub less : y <ℤ x → rank_of ranks a.head < rank_of ranks a.tail

-- flow x with excess e became flow y within the bounds, which leaves the excess f, and each change leads to a node of higher rank
pub record AreChanged (rows : List ArcRow) (ranks : List ℕ) (x e y f : List ℤ) : Type 0 where
  pub flow : IsPseudoflow (length e) rows y
  pub excess : IsExcessAfter rows x e y f
  pub rises : Rises rows x y ranks

-- m is moved from the excess of an arc's tail to that of its head
abbrev pub IsMovedAlong : ArcRow → ℤ → List ℤ → List ℤ → Type 0
IsMovedAlong a m e f = IsTransfer a.tail a.head m e f

-- a node whose excess was e and is f came nearer to balance, and gave n units
abbrev pub HasGiven : ℤ → ℤ → ℕ → Type 0
HasGiven e f n = IsNearer e f × (n + part_above_0 f ≡ part_above_0 e)

-- each node came nearer to balance since the journal began, and all gave n units
abbrev pub HaveGiven : Journal → List ℤ → ℕ → Type 0
HaveGiven j f n = (e : List ℤ) → IsSince j e f → AreNearer e f × (n + left f ≡ left e)

-- the table zs is the one with which the journal began, where ys stands now
abbrev pub IsBefore : Journal → List ℤ → List ℤ → Type 0
IsBefore j ys zs = (xs : List ℤ) → IsSince j xs ys → zs ≡ xs

-- flow x with excess e is changed to flow y with excess f, and n units are moved
pub record IsExchange (nodes : ℕ) (rows : List ArcRow) (n : ℕ) (x e y f : List ℤ) : Type 0 where
  pub ranks : List ℕ
  pub change : IsAcyclicChange nodes rows x e y f ranks
  pub units : n + left f ≡ left e

-- so it is in a graph
abbrev pub AreExchanged : GraphView → List ℤ → List ℤ → List ℤ → List ℤ → ℕ → Type 0
AreExchanged g x e y f n = IsExchange (length e) g.rows n x e y f
