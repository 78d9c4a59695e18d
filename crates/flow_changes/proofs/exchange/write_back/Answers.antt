use Rattle.std.proofs.Common.{◌≡◌, ◌∙◌, ◌<◌, ◌≤◌, ◌+◌, ◌-◌, ℕ, ℤ, List, ap, arith, length, pos, refl, rules, subst, sym, take, w64, SFits}
use Rattle.std.specs.Prelude.{slice_index_or, slice_set}
use Rattle.std.proofs.lemmas.Int.{to_z-of_z}
use Rattle.std.proofs.lemmas.List.{set_past}
use Rattle.proposals.specs.declared.wanted.FlowChange.{FlowChange}
use Rattle.flow_changes.specs.Exchange.{flow_before}
use Rattle.flow_changes.proofs.ExchangeLemmas.{flow_before-less}
use Rattle.tracked.specs.Tracked.{IsWritten, TrackedView}
use Rattle.tracked.proofs.TrackedLemmas.{IsWritten-trans}
use Rattle.flow_changes.proofs.exchange.write_back.Goals as goal
use Rattle.flow_changes.proofs.exchange.write_back.Goals.{then-k-entries, else-k-entries}

-- one more change is taken back
one_back : (changes : List FlowChange) (done j : ℕ) (c : FlowChange) (before y z : List ℤ) → done < length changes → j ≡ length changes - 1 - done
    → z ≡ slice_set y (slice_index_or changes j c).arc (slice_index_or changes j c).flow → flow_before (take (length changes - done) changes) y ≡ before → flow_before (take (length changes - (done + 1)) changes) z ≡ before
one_back changes done j c before y z lt j_is is left =
    let less : length changes - (done + 1) ≡ j = omega (arith, j_is) in
    let more : j + 1 ≡ length changes - done = omega (arith, lt, j_is) in
    ap (λ (n : ℕ). flow_before (take n changes) z) less ∙ ap (flow_before (take j changes)) is ∙ sym (flow_before-less changes j c y (omega (arith, lt, j_is))) ∙ ap (λ (n : ℕ). flow_before (take n changes) y) more ∙ left

pub loop-done-preserved : goal.loop-done-preserved
loop-done-preserved c =
    let changes = c.args.changes.now in
    let j = length changes - 1 - c.loop-done.done in
    let none : FlowChange = record { arc = 0; next = 0; flow = pos 0 } in
    let change = slice_index_or changes j none in
    let x = c.args.flow.now in
    let y = c.loop-done.flow in
    let z = c.if-k-entries.flow in
    let is = c.loop-done.invariant in
    let lt = c.loop-done-test.true in
    let back : z.entries ≡ slice_set y.entries change.arc change.flow → flow_before (take (length changes - (c.loop-done.done + 1)) changes) z.entries ≡ flow_before changes x.entries = λ at. one_back changes c.loop-done.done j none (flow_before changes x.entries) y.entries z.entries lt refl at is.left in
    elim c.if-k-entries.branch [
      | then-k-entries w ↦ (let fits : SFits w64 change.flow = search rules in
          record {
            written = IsWritten-trans x y z is.written (subst (IsWritten y) (sym w.flow-is) w.set.ensures.written);
            left = back (ap (λ (l : TrackedView ℤ). l.entries) w.flow-is ∙ w.set.ensures.entries ∙ ap (slice_set y.entries change.arc) (to_z-of_z w64 change.flow fits));
          })
      | else-k-entries w ↦ record {
        written = subst (IsWritten x) (sym w.flow-is) is.written;
        left = back (ap (λ (l : TrackedView ℤ). l.entries) w.flow-is ∙ sym (set_past y.entries change.arc change.flow (subst (λ (zs : List ℤ). length zs ≤ change.arc) c.entries.ensures w.if-k-entries.false)));
      }
    ]

pub returns-clause-flow : goal.returns-clause-flow
returns-clause-flow c =
    let changes = c.args.changes.now in
    let all : length changes - c.loop-done.done ≡ 0 = omega (arith, c.loop-done-test.false) in
    subst (λ (n : ℕ). flow_before (take n changes) c.loop-done.flow.entries ≡ flow_before changes c.args.flow.now.entries) all c.loop-done.invariant.left
