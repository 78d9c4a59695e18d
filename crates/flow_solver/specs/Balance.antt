-- The excess of each node and the cost of a flow, kept as they wrap at their types: so they can be carried over from one flow to another, whatever stands between.
use Rattle.std.specs.Prelude.{◌≡◌, ℕ, ◌+◌, ◌<◌, ℤ, ◌+ℤ◌, ◌-ℤ◌, List, length}
use Rattle.std.specs.Int.{int_wrap, w64, w128}
use Rattle.dimacs_text.specs.declared.problem.ArcRow.{ArcRow}
use Rattle.network.specs.Flow.{net, total_cost}
use Rattle.residual_graph.specs.Residual.{row_at, number_at}
use Rattle.network.specs.Instance.{Instance, reduced}
use Rattle.flow_solver.specs.declared.balance.Balance.{Balance}
use Rattle.tracked.specs.Tracked.{TrackedView}
use Rattle.augmentation.specs.Nodes.{held}
use Rattle.flow_changes.specs.Push.{only_at}

-- e holds the numbers as they wrap
abbrev pub AreWrapped : (ℕ → ℤ) → List ℤ → Type 0
AreWrapped numbers e = (v : ℕ) → number_at e v ≡ int_wrap w64 (numbers v)

-- e is what each node's supply exceeds the flow out of it by, as it wraps
abbrev pub IsWrappedExcess : List ArcRow → (ℕ → ℤ) → List ℤ → List ℤ → Type 0
IsWrappedExcess arcs supply x e = AreWrapped (λ v. supply v -ℤ net arcs x v) e

-- the cost of a flow, as it wraps
abbrev pub IsWrappedCost : List ArcRow → List ℤ → ℤ → Type 0
IsWrappedCost arcs x cost = cost ≡ int_wrap w128 (total_cost arcs x)

-- e became f where one node's number gained what `after` exceeds `before` by
pub record IsRaised (u : ℕ) (before after : ℤ) (e f : List ℤ) : Type 0 where
  pub same_length : length f ≡ length e
  pub by_node : (numbers : ℕ → ℤ) → AreWrapped numbers e → AreWrapped (λ v. numbers v +ℤ only_at u (after -ℤ before) v) f

-- what node v gains where m more flows along an arc
abbrev pub gain : ArcRow → ℤ → ℕ → ℤ
gain row m v = only_at row.head m v -ℤ only_at row.tail m v

-- e became f where the flow of an arc went from `before` to `after`
pub record IsCarried (row : ArcRow) (before after : ℤ) (e f : List ℤ) : Type 0 where
  pub same_length : length f ≡ length e
  pub by_node : (numbers : ℕ → ℤ) → AreWrapped numbers e → AreWrapped (λ v. numbers v +ℤ gain row (after -ℤ before) v) f

-- each arc's ends are entries of a table of nodes
abbrev pub AreEndsIn : ℕ → List ArcRow → Type 0
AreEndsIn nodes arcs = (k : ℕ) → k < length arcs → ((row_at arcs k).tail < nodes) × ((row_at arcs k).head < nodes)

-- what a node has to send out, and 0 where there is no such node
abbrev pub node_supply : Instance → ℕ → ℤ
node_supply I = held I.nodes (reduced I).supply

-- where e is the excess of the flow x, f is that of the flow y, whatever the supplies are
abbrev pub FollowsFlow : List ArcRow → List ℤ → List ℤ → List ℤ → List ℤ → Type 0
FollowsFlow arcs x e y f = (supply : ℕ → ℤ) → IsWrappedExcess arcs supply x e → IsWrappedExcess arcs supply y f

-- the excess of each node is that of the present flow of a `Tracked` table, the cost that of the flow in its snapshot
pub record IsBalanceOf (I : Instance) (rows : List ArcRow) (flow : TrackedView ℤ) (b : Balance) : Type 0 where
  pub sized : length b.excess ≡ I.nodes + 1
  pub excess : IsWrappedExcess rows (node_supply I) flow.entries b.excess
  pub cost : IsWrappedCost rows flow.whole b.cost
