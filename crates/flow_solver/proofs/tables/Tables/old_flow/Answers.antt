use Rattle.std.proofs.Common.{◌≡◌, ◌∙◌, ◌-◌, ◌≤◌, ℕ, ℤ, List, ap, arith, drop, length, subst, sym, take, IsSome}
use Rattle.std.specs.Prelude.{IfSome}
use Rattle.std.proofs.lemmas.List.{length-drop, take_all}
use Rattle.network.specs.Instance.{Instance, numbered_flow}
use Rattle.flow_solver.specs.TablesView.{TablesView}
use Rattle.network.specs.Rows.{return_arcs}
use Rattle.flow_solver.specs.Tables.{kept_by}
use Rattle.flow_solver.proofs.LogLemmas.{return_kept}
use Rattle.flow_solver.proofs.TablesViewLemmas.{numbered_before, since}
use Rattle.flow_solver.proofs.tables.Tables.old_flow.Goals as goal
use Rattle.flow_solver.proofs.tables.Tables.old_flow.Goals.{After-before-2}

counted : (c : After-before-2) → c.return_arcs-first.result ≡ return_arcs c.self.inside.graph.net.demand
counted c = c.return_arcs-first.ensures.count ∙ ap (λ (I : Instance). return_arcs I.demand) c.network.ensures

-- the flow that was kept is as long as what stands before the numbered arcs
within : (c : After-before-2) → c.return_arcs-first.result ≤ length c.before-2.result.now
within c =
    let t = c.self.inside in
    let some = subst (λ (d : TablesView). IsSome d.before) (sym c.self.view_is) c.requires in
    omega (arith, return_kept t.before.verdict t.graph.net (kept_by t.flow t.potentials.table t.cut t.before.log.items) some c.self.invariant.before_is, counted c, ap (λ (xs : List ℤ). length xs) c.before-2.ensures)

pub slice_bounds-result-count : goal.slice_bounds-result-count
slice_bounds-result-count c = within c

pub slice_bounds-result-start : goal.slice_bounds-result-start
slice_bounds-result-start c = within c

pub returns : goal.returns
returns c =
    let t = c.self.inside in
    let n = c.return_arcs-first.result in
    let r = c.before-2.result.now in
    let all : take (length r - n) (drop n r) ≡ drop (return_arcs t.graph.net.demand) t.flow.kept =
    take_all (length r - n) (drop n r) (omega (arith, length-drop n r)) ∙ ap (λ (xs : List ℤ). drop n xs) c.before-2.ensures ∙ ap (λ (k : ℕ). drop k t.flow.kept) (counted (goal.at.returns c).After-before-2) in
    subst (λ (d : TablesView). IfSome d.before (λ old. take (length r - n) (drop n r) ≡ numbered_flow old.instance.demand old.flow)) c.self.view_is
    (since _ _ _ (λ old. take (length r - n) (drop n r) ≡ numbered_flow old.instance.demand old.flow) (λ told. all ∙ sym (numbered_before t.before.log.items t.graph.net t.flow.kept)))
