use Rattle.std.proofs.Common.{◌≡◌, ◌∙◌, ◌<◌, ℕ, ℤ, List, Bool, false, length, pos, refl, rules, sym, ap, subst, true}
use Rattle.residual_graph.specs.Residual.{number_at}
use Rattle.predecessors.specs.declared.predecessor.Predecessor.{Predecessor}
use Rattle.tracked.specs.Marks.{in_set}
use Rattle.augmentation.specs.Certificate.{AreInRange}
use Rattle.augmentation.specs.Held.{AreTestedThere, AreHeld, IsInLabelRange}
use Rattle.augmentation.proofs.HeldLemmas.{in_range_still, tested_whole}
use Rattle.augmentation.proofs.held.holds.Goals as goal
use Rattle.augmentation.proofs.held.holds.Goals.{After-touched-touched}

-- what stood there before labels were written was held: nothing is lost
held : (c : After-touched-touched) → AreHeld c.args.graph.now.rows c.args.flow.now.whole c.requires.held.before.labels c.requires.held.before.predecessors c.args.tree.now.noted c.args.tree.now.beside
held c =
    let since = c.requires.held in
    rw (since.moved.noted, since.moved.beside) (since.held (sym since.moved.lost ∙ sym c.is_lost.ensures ∙ c.if-is_lost.false))

-- labels that are not marked are the same
same_labels : (c : After-touched-touched) (v : ℕ) → in_set c.touched-touched.result.now v ≡ false → number_at c.args.tree.now.labels v ≡ number_at c.requires.held.before.labels v
same_labels c v out = (c.requires.held.moved.labels v (ap (λ (marks : List Bool). in_set marks v) (sym c.touched-touched.ensures) ∙ out)).1 (pos 0)

pub hold_at_all-requires-clause-labelling : goal.hold_at_all-requires-clause-labelling
hold_at_all-requires-clause-labelling c =
    let a = (goal.at.hold_at_all-requires-clause-labelling c).After-touched-touched in
    record {
      flow = search rules;
      labels = in_range_still c.requires.held.before.labels c.labels-labels.result.now c.touched-touched.result.now (held a).in_range
          (λ v out. ap (λ (q : List ℤ). number_at q v) c.labels-labels.ensures ∙ same_labels a v out) (c.are_in_range_at.ensures c.if-not-are_in_range_at.false);
      same_length = search rules;
    }

pub returns-then-are_traced_at : goal.returns-then-are_traced_at
returns-then-are_traced_at c = λ yes.
    (let a = (goal.at.returns-then-are_traced_at c).After-touched-touched in
    let rows = c.args.graph.now.rows in
    let x = c.args.flow.now.entries in
    let tree = c.args.tree.now in
    let before = c.requires.held.before in
    let touched = c.touched-touched.result.now in
    let in_range : AreInRange tree.labels = in_range_still before.labels tree.labels touched (held a).in_range (same_labels a)
    (subst (λ (q : List ℤ). (v : ℕ) → v < length q → in_set touched v ≡ true → IsInLabelRange (number_at q v)) c.labels-labels.ensures (c.are_in_range_at.ensures c.if-not-are_in_range_at.false)) in
    let there : AreTestedThere rows x tree.labels tree.predecessors tree.noted tree.beside c.written.result.now touched =
    subst (λ (y : List ℤ). AreTestedThere rows y tree.labels tree.predecessors tree.noted tree.beside c.written.result.now touched) c.entries.ensures
    (subst (λ (q : List ℤ). AreTestedThere rows c.entries.result.now q tree.predecessors tree.noted tree.beside c.written.result.now touched) c.labels-labels.ensures
    (subst (λ (t : List Predecessor). AreTestedThere rows c.entries.result.now c.labels-labels.result.now t tree.noted tree.beside c.written.result.now touched) c.predecessors.ensures.value
    (subst (λ (n : List Bool). AreTestedThere rows c.entries.result.now c.labels-labels.result.now c.predecessors.result.now n tree.beside c.written.result.now touched) c.noted.ensures
    (subst (λ (b : List Bool). AreTestedThere rows c.entries.result.now c.labels-labels.result.now c.predecessors.result.now c.noted.result.now b c.written.result.now touched) c.beside.ensures
    (record {
      noted_hold = c.hold_along_all.ensures c.if-not-hold_along_all.false;
      beside_traced = c.are_traced_at.ensures c.if-are_traced_at.true;
      written_hold = c.hold_along_all-2.ensures c.if-not-hold_along_all-2.false;
      touched_hold = c.hold_at_all.ensures yes;
    }))))) in
    tested_whole (length tree.labels) rows c.args.flow.now.whole x before.labels tree.labels before.predecessors tree.predecessors tree.noted tree.beside c.written.result.now touched
    c.requires.flow refl (held a) (record {
      sized = c.requires.held.sized;
      flow = λ k out. c.written.ensures.elsewhere k out (pos 0);
      labels = same_labels a;
      predecessors = λ v out. (c.requires.held.moved.predecessors v (ap (λ (marks : List Bool). in_set marks v) (sym c.touched-touched.ensures) ∙ out)).1 (record { end = 0; rank = 0; is_open = false });
    }) in_range there)
