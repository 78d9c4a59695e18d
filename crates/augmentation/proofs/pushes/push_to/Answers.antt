use Rattle.std.proofs.Common.{◌≡◌, ◌∙◌, ℤ, List, length, sym, ap, subst, pos}
use Rattle.std.specs.Prelude.{◌<ℤ◌}
use Rattle.std.specs.Vec.{with_items}
use Rattle.std.proofs.lemmas.List.{with_items_is}
use Rattle.residual_graph.specs.Residual.{number_at}
use Rattle.predecessors.specs.declared.predecessor.Predecessor.{Predecessor}
use Rattle.shortest_paths.specs.Search.{HavePaths}
use Rattle.augmentation.specs.Pseudoflow.{IsCertifiedPseudoflow}
use Rattle.flow_changes.specs.Push.{ArePushes, one_if}
use Rattle.augmentation.specs.Path.{IsAugmented, root_to}
use Rattle.augmentation.specs.ScratchView.{ScratchView}
use Rattle.augmentation.proofs.SettleLemmas.{IsPushedOn, pushed_on, root_in_excess}
use Rattle.augmentation.proofs.pushes.push_to.Goals as goal
use Rattle.augmentation.proofs.pushes.push_to.Goals.{After-augment}

tables : (c : After-augment) → c.predecessors.result.now ≡ c.args.scratch.now.tree.predecessors
tables c = c.predecessors.ensures.value ∙ ap (λ (v : ScratchView). v.tree.predecessors) c.scratch.view_is

excesses : (c : After-augment) → c.deref_mut.result.now ≡ c.args.excess.now
excesses c = c.deref_mut.ensures.value ∙ c.excess.view_is

is_pushed : (c : After-augment) → IsPushedOn c.args.graph.now c.args.scratch.now.tree.labels c.augment.result c.args.flow.now.entries c.args.excess.now c.augment.new.flow.entries c.augment.new.excess
is_pushed c =
    let rows = c.args.graph.now.rows in
    let x = c.args.flow.now.entries in
    let t = c.args.target in
    let y = c.augment.new.flow.entries in
    let f = c.augment.new.excess in
    pushed_on c.args.graph.now x c.args.scratch.now.tree.labels c.args.excess.now c.args.scratch.now.tree.predecessors t y f c.augment.result c.requires.forest c.requires.reached c.requires.state.state
    (λ yes. subst (λ (l : List Predecessor). IsAugmented rows l t x c.args.excess.now y f) (tables c)
    (subst (λ (g : List ℤ). IsAugmented rows c.predecessors.result.now t x g y f) (excesses c) (c.augment.ensures.pushed yes)))
    (λ no. (c.augment.ensures.same_flow no, c.augment.ensures.same_excess no ∙ excesses c))

excess_is : (c : After-augment) → (with_items c.excess.inside.entries c.augment.new.excess).items ≡ c.augment.new.excess
excess_is c = with_items_is c.excess.inside.entries c.augment.new.excess (c.augment.auto.excess ∙ c.deref_mut.ensures.len)

pub invariant_of-excess : goal.invariant_of-excess
invariant_of-excess c =
    let a = (goal.at.invariant_of-excess c).After-augment in
    let pushed = (is_pushed a).pushed in
    let sized = sym (ap length (excess_is a) ∙ c.augment.auto.excess ∙ ap length c.deref_mut.ensures.value) in (
      record {
        one_a_node = c.excess.invariant.0.one_a_node ∙ sized;
        balanced = λ v out. ap (λ (e : List ℤ). number_at e v) (excess_is a) ∙ pushed.balanced v (ap (λ (e : List ℤ). number_at e v) (sym c.excess.view_is) ∙ c.excess.invariant.0.balanced v out);
      },
      c.excess.invariant.1 ∙ sized,
    )

pub returns-clause-pushed : goal.returns-clause-pushed
returns-clause-pushed c =
    let a = (goal.at.returns-clause-pushed c).After-augment in
    let y = c.augment.new.flow.entries in
    record {
      written = c.augment.ensures.written;
      state = record {
        state = subst (IsCertifiedPseudoflow c.args.graph.now y c.args.scratch.now.tree.labels) (sym (excess_is a)) (is_pushed a).state;
        forgotten = c.requires.state.forgotten;
      };
      pushes = subst (ArePushes c.args.graph.now.rows (one_if c.augment.result) c.args.flow.now.entries c.args.excess.now y) (sym (excess_is a)) (is_pushed a).pushed;
    }

pub returns-clause-some : goal.returns-clause-some
returns-clause-some c = λ found.
    (let a = (goal.at.returns-clause-some c).After-augment in
    let rows = c.args.graph.now.rows in
    let x = c.args.flow.now.entries in
    let s = c.args.scratch.now.tree.predecessors in
    c.augment.ensures.some (record {
      paths = subst (λ (l : List Predecessor). HavePaths rows x l) (sym (tables a)) found.search.paths;
      gives = subst (λ (l : List Predecessor). pos 0 <ℤ number_at c.deref_mut.result.now (root_to rows l c.args.target)) (sym (tables a))
          (subst (λ (e : List ℤ). pos 0 <ℤ number_at e (root_to rows s c.args.target)) (sym (excesses a))
          (root_in_excess rows x c.args.scratch.now.tree.labels c.args.excess.now s c.args.target found));
    }))
