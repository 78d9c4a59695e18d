use Rattle.std.proofs.Common.{◌≡◌, ◌+◌, ◌*◌, ◌-◌, ◌<◌, ◌≤◌, ℕ, Some, arith, length, subst, sym}
use Rattle.std.specs.Prelude.{Option, SomeIff}
use Rattle.network.specs.Ends.{end_node, last_end_below}
use Rattle.residual_graph.specs.Graph.{GraphView, graph_of}
use Rattle.residual_graph.specs.Walk.{IsNextEnd, StandsAt, ends_before}
use Rattle.residual_graph.proofs.GraphLemmas.{is_graph}
use Rattle.residual_graph.proofs.WalkLemmas.{IsNextBelow, goes_on_listed, goes_on_return, next_below, split}
use Rattle.residual_graph.proofs.graph.Graph.next_end.Goals as goal
use Rattle.residual_graph.proofs.graph.Graph.next_end.Goals.{After-next_end}

abbrev g : After-next_end → GraphView
g c = graph_of c.self.inside.net

before : (c : After-next_end) → c.return_ends-before.result ≡ ends_before (g c)
before c = subst (λ (v : GraphView). c.return_ends-before.result ≡ ends_before v) (sym c.self.view_is) c.return_ends-before.ensures

-- the end in the network's numbers
abbrev listed : After-next_end → ℕ
listed c = c.args.end - ends_before (g c)

-- the answer of the network's list, at the node of the end
below : (c : After-next_end) → IsNextBelow (g c).net.arcs (end_node (g c).net.arcs (listed c)) (listed c) c.next_end.result
below c =
    let arcs = (g c).net.arcs in
    let in_rows = subst (λ (v : GraphView). c.args.end < 2 * length v.rows) (sym c.self.view_is) c.requires in
    let is : c.next_end.result ≡ last_end_below arcs (end_node arcs (listed c)) (listed c) = subst (λ (b : ℕ). c.args.end - b < 2 * length arcs → c.next_end.result ≡ last_end_below arcs (end_node arcs (c.args.end - b)) (c.args.end - b)) (before c)
    c.next_end.ensures.end (omega (arith, in_rows, before c, c.if-end-before.false, split (g c) (is_graph c.self.inside.net c.self.invariant).rows)) in
    subst (IsNextBelow arcs (end_node arcs (listed c)) (listed c)) (sym is) (next_below arcs (end_node arcs (listed c)) (listed c))

whole : (c : After-next_end) (next : Option ℕ) → IsNextEnd (g c) (end_node (g c).net.arcs (listed c)) (listed c + ends_before (g c)) next → (v : ℕ) → StandsAt c.args.self.now v c.args.end → IsNextEnd c.args.self.now v c.args.end next
whole c next is v stands =
    let up : ends_before (g c) ≤ c.args.end = omega (arith, before c, c.if-end-before.false) in
    let same : listed c + ends_before (g c) ≡ c.args.end = omega (arith, up) in
    let here = subst (λ (w : GraphView). StandsAt w v c.args.end) (sym c.self.view_is) stands up in
    subst (λ (w : GraphView). IsNextEnd w v c.args.end next) c.self.view_is
    (subst (λ (u : ℕ). IsNextEnd (g c) u c.args.end next) here (subst (λ (n : ℕ). IsNextEnd (g c) (end_node (g c).net.arcs (listed c)) n next) same is))

pub overflow_add-result : goal.overflow_add-result
overflow_add-result c =
    let at = (goal.at.overflow_add-result c).After-next_end in
    let found = (subst (IsNextBelow (g at).net.arcs (end_node (g at).net.arcs (listed at)) (listed at)) c.in-Some.is (below at)).found in
    omega (arith, found.0, before at, c.if-end-before.false)

pub returns-in-Some-clause-next : goal.returns-in-Some-clause-next
returns-in-Some-clause-next c =
    let at = (goal.at.returns-in-Some-clause-next c).After-next_end in
    let arcs = (g at).net.arcs in
    let v = end_node arcs (listed at) in
    let is = goes_on_listed (g at) (is_graph c.self.inside.net c.self.invariant).rows v (listed at) c.in-Some.next (subst (IsNextBelow arcs v (listed at)) c.in-Some.is (below at)) in
    whole at _ (subst (λ (b : ℕ). IsNextEnd (g at) v (listed at + ends_before (g at)) (Some (c.in-Some.next + b))) (sym (before at)) is)

pub returns-in-Some-clause-below : goal.returns-in-Some-clause-below
returns-in-Some-clause-below c =
    let at = (goal.at.returns-in-Some-clause-below c).After-next_end in
    let found = (subst (IsNextBelow (g at).net.arcs (end_node (g at).net.arcs (listed at)) (listed at)) c.in-Some.is (below at)).found in
    omega (arith, found.0, before at, c.if-end-before.false)

pub returns-in-None-clause-next : goal.returns-in-None-clause-next
returns-in-None-clause-next c =
    let at = (goal.at.returns-in-None-clause-next c).After-next_end in
    let arcs = (g at).net.arcs in
    let v = end_node arcs (listed at) in
    whole at c.checked_sub-in-None.result (goes_on_return (g at) (is_graph c.self.inside.net c.self.invariant).rows v (listed at) c.checked_sub-in-None.result (subst (IsNextBelow arcs v (listed at)) c.in-None.is (below at))
    (subst (λ (b : ℕ). SomeIff c.checked_sub-in-None.result (1 ≤ b) (b - 1)) (before at) c.checked_sub-in-None.ensures))
