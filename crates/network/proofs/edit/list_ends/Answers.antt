use Rattle.std.proofs.Common.{◌≡◌, ◌∙◌, ℕ, ◌+◌, ◌*◌, ◌<◌, suc, List, length, take, refl, sym, ap, arith}
use Rattle.std.proofs.lemmas.List.{length-map, length-take-le, take_at, take_more}
use Rattle.dimacs_text.specs.declared.problem.ArcRow.{ArcRow}
use Rattle.network.specs.Representation.{ends_in, listed_end}
use Rattle.network.proofs.EndLemmas.{no_arc}
use Rattle.network.proofs.EndLinks.{lists_push}
use Rattle.network.proofs.Rows.{no_ends}
use Rattle.network.proofs.edit.list_ends.Goals as goal

-- how many ends are listed before arc i
listed : (next : List ℕ) (arcs : List ArcRow) (i : ℕ) → i < length arcs → length (ends_in next) ≡ 2 * length (take i arcs) → length next ≡ 2 * i
listed next arcs i inside e = omega (arith, length-map next listed_end, length-take-le i arcs (omega arith), e)

pub loop-arc-init : goal.loop-arc-init
loop-arc-init c = record {
  lists = rw (c.in_ok-first.ensures.items_if_clones_equal (λ y same. same), c.in_ok-next.ensures.items) (no_ends c.args.nodes c.args.nodes refl);
  room = omega (arith, c.in_ok-next.ensures.exact);
}

pub loop-arc-preserved : goal.loop-arc-preserved
loop-arc-preserved c =
    let i = c.loop-arc.arc-index in
    let arcs = c.args.arcs.now in
    let inside = c.loop-arc-test.true in
    let row = c.requires.lawful i no_arc inside in
    let lists = c.loop-arc.invariant.lists in
    let first1 = c.link_end.auto.first ∙ ap length c.deref_mut.ensures.value ∙ sym c.loop-arc.first.ok.0 in
    let back1 = c.deref_mut-in-loop-arc.ensures.value ∙ take_at c.link_end.new.first _ _ first1 in
    let first2 = c.link_end-in-loop-arc.auto.first ∙ ap length back1 ∙ first1 in
    let count : c.len-end.result ≡ 2 * length (take i arcs) = omega (arith, c.len-end.ensures, c.loop-arc.next.ok.0, length-map c.loop-arc.next.items listed_end, lists.next_len) in
    let next : 2 * length (take i arcs) + 1 ≡ suc (2 * length (take i arcs)) = omega arith in
    let one = rw (c.deref_mut.ensures.value, count) at c.link_end.ensures.added in
    let two = rw (next) at (rw (back1, count) at c.link_end-in-loop-arc.ensures.added) in
    rw (take_at c.link_end-in-loop-arc.new.first _ _ first2, take_more arcs i no_arc inside) (record {
      lists = lists_push _ _ _ _ _ _ _ _ _ lists row.tail row.head one two;
      room = omega (arith, c.loop-arc.invariant.room, c.link_end.ensures.capacity, c.link_end-in-loop-arc.ensures.capacity);
    })

pub overflow_cast-end : goal.overflow_cast-end
overflow_cast-end c = omega (arith, listed c.loop-arc.next.items c.args.arcs.now c.loop-arc.arc-index c.loop-arc-test.true c.loop-arc.invariant.lists.next_len)

pub link_end-requires-clause-few : goal.link_end-requires-clause-few
link_end-requires-clause-few c = omega (arith, listed c.loop-arc.next.items c.args.arcs.now c.loop-arc.arc-index c.loop-arc-test.true c.loop-arc.invariant.lists.next_len)

pub link_end-requires-clause-room : goal.link_end-requires-clause-room
link_end-requires-clause-room c = omega (arith, listed c.loop-arc.next.items c.args.arcs.now c.loop-arc.arc-index c.loop-arc-test.true c.loop-arc.invariant.lists.next_len)

pub overflow_add-end : goal.overflow_add-end
overflow_add-end c = omega (arith, listed c.loop-arc.next.items c.args.arcs.now c.loop-arc.arc-index c.loop-arc-test.true c.loop-arc.invariant.lists.next_len)

pub link_end-requires-in-loop-arc-clause-few : goal.link_end-requires-in-loop-arc-clause-few
link_end-requires-in-loop-arc-clause-few c = omega (arith, listed c.loop-arc.next.items c.args.arcs.now c.loop-arc.arc-index c.loop-arc-test.true c.loop-arc.invariant.lists.next_len)

pub link_end-requires-clause-node : goal.link_end-requires-clause-node
link_end-requires-clause-node c =
    let row = c.requires.lawful c.loop-arc.arc-index no_arc c.loop-arc-test.true in
    omega (arith, row.tail, c.loop-arc.invariant.lists.first_len, length-map c.loop-arc.first.items listed_end)

pub link_end-requires-in-loop-arc-clause-node : goal.link_end-requires-in-loop-arc-clause-node
link_end-requires-in-loop-arc-clause-node c =
    let row = c.requires.lawful c.loop-arc.arc-index no_arc c.loop-arc-test.true in
    omega (arith, row.head, c.loop-arc.invariant.lists.first_len, length-map c.loop-arc.first.items listed_end)
