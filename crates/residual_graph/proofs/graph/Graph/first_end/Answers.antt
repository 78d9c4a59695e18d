use Rattle.std.proofs.Common.{◌≡◌, ◌+◌, ◌*◌, ◌-◌, ◌≤◌, ℕ, Some, arith, length, subst, sym}
use Rattle.std.specs.Prelude.{Option, SomeIff}
use Rattle.residual_graph.specs.Graph.{GraphView, graph_of}
use Rattle.residual_graph.specs.Walk.{IsNextEnd, ends_before}
use Rattle.residual_graph.proofs.GraphLemmas.{is_graph}
use Rattle.residual_graph.proofs.WalkLemmas.{IsNextBelow, few_rows, first_below, goes_on_listed, goes_on_return, split}
use Rattle.residual_graph.proofs.graph.Graph.first_end.Goals as goal
use Rattle.residual_graph.proofs.graph.Graph.first_end.Goals.{After-first_end}

abbrev g : After-first_end → GraphView
g c = graph_of c.self.inside.net

-- the answer of the network's list
below : (c : After-first_end) → IsNextBelow (g c).net.arcs c.args.node (2 * length (g c).net.arcs) c.first_end.result
below c = first_below (g c).net c.args.node c.first_end.result c.self.invariant c.first_end.ensures.node c.first_end.ensures.no_node

-- all ends are those of the network's arcs and of the return arc
all : (c : After-first_end) → 2 * length (g c).net.arcs + ends_before (g c) ≡ 2 * length (g c).rows
all c = omega (arith, split (g c) (is_graph c.self.inside.net c.self.invariant).rows)

before : (c : After-first_end) → c.return_ends-before.result ≡ ends_before (g c)
before c = subst (λ (v : GraphView). c.return_ends-before.result ≡ ends_before v) (sym c.self.view_is) c.return_ends-before.ensures

whole : (c : After-first_end) (next : Option ℕ) → IsNextEnd (g c) c.args.node (2 * length (g c).net.arcs + ends_before (g c)) next → IsNextEnd c.args.self.now c.args.node (2 * length c.args.self.now.rows) next
whole c next is = subst (λ (v : GraphView). IsNextEnd v c.args.node (2 * length v.rows) next) c.self.view_is (subst (λ (n : ℕ). IsNextEnd (g c) c.args.node n next) (all c) is)

pub overflow_add-result : goal.overflow_add-result
overflow_add-result c =
    let at = (goal.at.overflow_add-result c).After-first_end in
    let found = (subst (IsNextBelow (g at).net.arcs c.args.node (2 * length (g at).net.arcs)) c.in-Some.is (below at)).found in
    omega (arith, found.0, all at, before at, few_rows (g at) (is_graph c.self.inside.net c.self.invariant).rows)

pub returns-in-Some : goal.returns-in-Some
returns-in-Some c =
    let at = (goal.at.returns-in-Some c).After-first_end in
    let is = goes_on_listed (g at) (is_graph c.self.inside.net c.self.invariant).rows c.args.node (2 * length (g at).net.arcs) c.in-Some.end (subst (IsNextBelow (g at).net.arcs c.args.node (2 * length (g at).net.arcs)) c.in-Some.is (below at)) in
    whole at _ (subst (λ (b : ℕ). IsNextEnd (g at) c.args.node (2 * length (g at).net.arcs + ends_before (g at)) (Some (c.in-Some.end + b))) (sym (before at)) is)

pub returns-in-None : goal.returns-in-None
returns-in-None c =
    let at = (goal.at.returns-in-None c).After-first_end in
    whole at c.checked_sub.result (goes_on_return (g at) (is_graph c.self.inside.net c.self.invariant).rows c.args.node (2 * length (g at).net.arcs) c.checked_sub.result (subst (IsNextBelow (g at).net.arcs c.args.node (2 * length (g at).net.arcs)) c.in-None.is (below at))
    (subst (λ (b : ℕ). SomeIff c.checked_sub.result (1 ≤ b) (b - 1)) (before at) c.checked_sub.ensures))
