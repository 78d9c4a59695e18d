use Rattle.std.proofs.Common.{◌∙◌, ap, ℤ, List, arith, refl, rules, subst, sym}
use Rattle.std.specs.Vec.{with_items}
use Rattle.std.proofs.lemmas.List.{with_items_is}
use Rattle.shortest_paths.specs.Levels.{IsLeadingTo}
use Rattle.shortest_paths.specs.Search.{IsSearch, open_count}
use Rattle.shortest_paths.specs.Tree.{TreeView}
use Rattle.shortest_paths.proofs.LevelLemmas.{fewer_open, search_level}
use Rattle.shortest_paths.proofs.StepLemmas.{search_first}
use Rattle.shortest_paths.proofs.tree.Tree.search_levels.Goals as goal
use Rattle.shortest_paths.proofs.tree.Tree.search_levels.Goals.{After-come_along, in-Some+then-not-leads_to, in_default}

pub loop-node-init : goal.loop-node-init
loop-node-init c = record {
  search = search_first c.args.graph.now.rows c.args.flow.now c.args.self.now.labels c.begin_in_excess.new.predecessors (search rules) c.begin_in_excess.ensures.flat;
  sized = refl;
}

leads : (c : After-come_along) → IsLeadingTo c.args.graph.now.rows c.args.flow.now c.args.self.now.labels c.loop-node.predecessors c.in-Some.node c.entry-end.result.end
leads c =
    let labels_are = c.deref-in-Some.ensures.value ∙ ap (λ (t : TreeView). t.labels) c.self.view_is in
    subst (λ (p : List ℤ). IsLeadingTo c.args.graph.now.rows c.args.flow.now p c.loop-node.predecessors c.in-Some.node c.entry-end.result.end) labels_are (c.leads_to.ensures c.if-not-leads_to.false)

pub loop-node-smaller : goal.loop-node-smaller
loop-node-smaller c =
    let s = (goal.at.loop-node-smaller c).After-come_along in
    let less = fewer_open _ _ _ c.loop-node.predecessors c.in-Some.node c.entry-end.result.end c.loop-node.invariant.search (leads s) in
    omega (arith, less, ap open_count c.come_along.ensures)

pub loop-node-preserved : goal.loop-node-preserved
loop-node-preserved c =
    let s = (goal.at.loop-node-preserved c).After-come_along in
    record {
      search = subst (IsSearch c.args.graph.now.rows c.args.flow.now c.args.self.now.labels) (sym c.come_along.ensures)
          (search_level _ _ _ c.loop-node.predecessors c.in-Some.node c.entry-end.result.end c.loop-node.invariant.search (leads s));
      sized = omega (arith, c.offer_levels_from-in-Some.ensures, c.take_first.ensures.sized, c.loop-node.invariant.sized);
    }

pub returns-clause-search : goal.returns-clause-search
returns-clause-search c =
    let rows = c.args.graph.now.rows in
    let x = c.args.flow.now in
    let t = with_items c.self.inside.predecessors c.loop-node.predecessors in
    let predecessors_end = with_items_is c.self.inside.predecessors c.loop-node.predecessors (omega (arith, c.loop-node.auto.predecessors, c.begin_in_excess.auto.predecessors, c.deref_mut-predecessors.ensures.len)) in
    let searched = subst (λ (p : List ℤ). IsSearch rows x p t.items) (sym (ap (λ (v : TreeView). v.labels) c.self.view_is))
    (subst (IsSearch rows x c.args.self.now.labels) (sym predecessors_end) c.loop-node.invariant.search) in
    elim c.match-take_first.branch [
      | in-Some+then-not-leads_to w ↦ rw w.self-inside-is searched
      | in_default w ↦ rw w.self-inside-is searched
    ]
