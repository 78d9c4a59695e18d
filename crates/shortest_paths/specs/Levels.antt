-- Residual arcs that cost nothing, by which nodes are come to or hang on others.
use Rattle.std.specs.Prelude.{◌≡◌, ℕ, ◌+◌, ◌/◌, ◌<◌, ℤ, pos, List, length}
use Rattle.dimacs_text.specs.declared.problem.ArcRow.{ArcRow}
use Rattle.residual_graph.specs.Residual.{end_at, start_at}
use Rattle.residual_graph.specs.Walk.{end_way}
use Rattle.predecessors.specs.declared.predecessor.Predecessor.{Predecessor}
use Rattle.predecessors.specs.Predecessor.{rank_at, reduced_at}
use Rattle.shortest_paths.specs.Search.{Crosses, IsReached}

-- the residual arc that leaves at an end is there, leads from a node that was reached to the open node v, and costs nothing
pub record IsLeadingTo (arcs : List ArcRow) (x p : List ℤ) (t : List Predecessor) (v end : ℕ) : Type 0 where
  pub is_arc : end / 2 < length arcs
  pub crosses : Crosses arcs x t (end / 2) (end_way end)
  pub ends : end_at arcs (end / 2) (end_way end) ≡ v
  pub tight : reduced_at arcs p (end / 2) (end_way end) ≡ pos 0

-- the residual arc that leaves at an end would lead to node v from a node that was reached, of the rank before, and cost nothing
pub record IsHangingOn (arcs : List ArcRow) (p : List ℤ) (t : List Predecessor) (v end : ℕ) : Type 0 where
  pub is_arc : end / 2 < length arcs
  pub ends : end_at arcs (end / 2) (end_way end) ≡ v
  pub reached : IsReached t (start_at arcs (end / 2) (end_way end))
  pub deeper : rank_at t v ≡ rank_at t (start_at arcs (end / 2) (end_way end)) + 1
  pub tight : reduced_at arcs p (end / 2) (end_way end) ≡ pos 0
