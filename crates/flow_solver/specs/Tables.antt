-- What the tables hold of an instance.
use Rattle.std.specs.Prelude.{◌≡◌, ℕ, ◌+◌, ◌≤◌, ℤ, Bool, drop, List, length, vec_capacity}
use Rattle.dimacs_text.specs.declared.group.TheConstants.{GROUP_LIMIT}
use Rattle.residual_graph.specs.declared.graph.Graph.{Graph}
use Rattle.residual_graph.specs.Graph.{IsGraph}
use Rattle.augmentation.specs.Held.{IsHeldIn}
use Rattle.augmentation.specs.Nodes.{IsIdleEntry}
use Rattle.augmentation.specs.ScratchView.{ScratchView}
use Rattle.flow_solver.specs.declared.balance.Balance.{Balance}
use Rattle.flow_solver.specs.declared.part.Before.{Before}
use Rattle.flow_solver.specs.declared.part.Part.{Part}
use Rattle.flow_solver.specs.Potentials.{AreAsTold, KeepStep}
use Rattle.flow_solver.specs.declared.potentials.Potentials.{Potentials}
use Rattle.flow_solver.specs.Balance.{IsBalanceOf}
use Rattle.tracked.specs.Tracked.{TrackedView}
use Rattle.flow_solver.specs.Moment.{Snapshot}
use Rattle.flow_solver.specs.Part.{IsKept}

-- a `Tracked` table of nodes: one entry for each node and one for no node, now and in its last snapshot
pub record IsOfNodes {T : Type 0} (nodes : ℕ) (l : TrackedView T) : Type 0 where
  pub entries_in : length l.entries ≡ nodes + 1
  pub kept_in : length l.kept ≡ nodes + 1

-- what the snapshots of the `Tracked` tables and the log keep of a moment
abbrev pub kept_by : TrackedView ℤ → TrackedView ℤ → TrackedView Bool → List Part → Snapshot
kept_by flow potentials cut log = record { flow = flow.kept; potentials = drop 1 potentials.kept; cut = drop 1 cut.kept; log = log }

-- one entry for each row of the graph, one for each node and one for no node, and room for all arcs that may be added
pub record FitGraph (g : Graph) (flow : TrackedView ℤ) (potentials : TrackedView ℤ) (cut : TrackedView Bool) (scratch : ScratchView) : Type 0 where
  pub graph : IsGraph g
  pub flow_in : length flow.entries ≡ length g.rows
  pub flow_whole : length flow.whole ≡ length g.rows
  pub flow_fits : g.net.room + 1 ≤ flow.room
  pub potentials_in : IsOfNodes g.net.nodes potentials
  pub idle : IsIdleEntry potentials.entries
  pub kept_idle : IsIdleEntry potentials.kept
  pub cut_in : IsOfNodes g.net.nodes cut
  pub scratch_in : length scratch.tree.labels ≡ g.net.nodes + 1

-- the tables fit the graph, and there is room to log a group. What is told of the potentials is true, and labels that were
-- tested are held under the flow that was kept; it is known where the potentials may be others than these
pub record AreConsistent (g : Graph) (flow : TrackedView ℤ) (potentials : Potentials) (balance : Balance) (cut : TrackedView Bool) (scratch : ScratchView) (before : Before) : Type 0 where
  pub fit : FitGraph g flow potentials.table cut scratch
  pub open fit use *
  pub balance_is : IsBalanceOf g.net g.rows flow balance
  pub told : AreAsTold g.net flow.entries potentials
  pub held : IsHeldIn g.rows flow.whole scratch.tree
  pub step : KeepStep potentials scratch
  pub log_fits : GROUP_LIMIT ≤ vec_capacity before.log
  pub before_is : IsKept before.verdict g.net (kept_by flow potentials.table cut before.log.items)
