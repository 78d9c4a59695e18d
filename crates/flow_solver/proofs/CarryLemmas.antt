-- How the balance of the tables follows each change of them.
use Rattle.std.proofs.Common.{◌≡◌, ℕ, ◌+◌, ◌-◌, ◌<◌, ◌≤◌, ℤ, pos, ◌+ℤ◌, ◌-ℤ◌, ◌*ℤ◌, List, [], ◌∷◌, ◌++◌, length, take, slice_index_or, slice_set, refl, sym, ◌∙◌, arith}
use Rattle.std.specs.Int.{int_wrap, w128}
use Rattle.std.proofs.lemmas.List.{get_or_push, length-append, length-take-le, take_all, take_more}
use Rattle.dimacs_text.specs.declared.problem.ArcRow.{ArcRow}
use Rattle.dimacs_text.specs.declared.problem.Kind.TheVariants.{Min}
use Rattle.network.specs.Edited.{with_last}
use Rattle.network.specs.Instance.{Demand, Instance, IsLawful, kind_of, reduced, reduced_arcs}
use Rattle.flow_solver.specs.declared.balance.Balance.{Balance}
use Rattle.flow_solver.specs.Balance.{AreEndsIn, IsBalanceOf, IsCarried, IsRaised, IsWrappedCost, IsWrappedExcess}
use Rattle.augmentation.specs.Nodes.{held}
use Rattle.residual_graph.specs.Residual.{row_at, number_at}
use Rattle.flow_solver.specs.TablesView.{flow_index}
use Rattle.tracked.specs.Tracked.{TrackedView}
use Rattle.flow_solver.proofs.BalanceLemmas.{cost_first, cost_last, cost_row, excess_first, excess_last, excess_row, excess_set, excess_supplied}
use Rattle.residual_graph.proofs.GraphLemmas.{with_row}
use Rattle.flow_solver.proofs.ChangeLemmas.{place_in, row_is, rows_changed, supplied, supplies_held}
use Rattle.residual_graph.proofs.Pseudoflows.{rows_of_instance}
use Rattle.residual_graph.proofs.NodeNumbers.{IsNodeOf}

-- what each node of an instance has to send out
abbrev pub sends : Instance → ℕ → ℤ
sends I = held I.nodes (reduced I).supply

-- ---- places

-- the ends of the instance's rows are entries of a table of its nodes
pub ends_of_rows : (I : Instance) (rows : List ArcRow) → IsLawful I → rows ≡ (reduced I).arcs → AreEndsIn (I.nodes + 1) rows
ends_of_rows I rows lawful same k lt = (let row = rows_of_instance I lawful k (rw same at lt) in rw same (row.tail_in, row.head_in))

pub ends_in : (I : Instance) (rows : List ArcRow) (b : Balance) → IsLawful I → rows ≡ (reduced I).arcs → length b.excess ≡ I.nodes + 1 → AreEndsIn (length b.excess) rows
ends_in I rows b lawful same sized = rw sized (ends_of_rows I rows lawful same)

-- the row and the flow of a numbered arc stand at the same place
flow_place : (D : Demand) (arcs : List ArcRow) (k : ℕ) → (1 ≤ k) × (k ≤ length arcs) → (length (reduced_arcs D arcs) - length arcs) + (k - 1) ≡ flow_index D k
flow_place D arcs k at = grind arith

-- the reduced instance has each arc of the instance
pub arcs_in : (D : Demand) (arcs : List ArcRow) → length arcs ≤ length (reduced_arcs D arcs)
arcs_in D arcs = grind arith

-- the place of a numbered arc
pub record IsPlace (I : Instance) (rows : List ArcRow) (k place : ℕ) : Type 0 where
  pub in_rows : place < length rows
  pub row_is : (d : ArcRow) → row_at rows place ≡ slice_index_or I.arcs (k - 1) d
  pub index_is : place ≡ flow_index I.demand k

pub place_is : (I : Instance) (rows : List ArcRow) (k place : ℕ) → rows ≡ (reduced I).arcs → (1 ≤ k) × (k ≤ length I.arcs) → place ≡ (length rows - length I.arcs) + (k - 1) → IsPlace I rows k place
place_is I rows k place same at is =
    let there : place ≡ flow_index I.demand k = is ∙ (rw same (flow_place I.demand I.arcs k at)) in
    record { in_rows = rw (same, there) (place_in I k at); row_is = λ d. rw (same, there) (row_is I k d at); index_is = there }

-- ---- one flow, row or supply changes

pub balance_set : (I : Instance) (rows : List ArcRow) (flow flow' : TrackedView ℤ) (b b' : Balance) (k : ℕ) (y : ℤ) → k < length rows → length flow.entries ≡ length rows → IsCarried (row_at rows k) (number_at flow.entries k) y b.excess b'.excess → b'.cost ≡ b.cost → flow'.entries ≡ slice_set flow.entries k y → flow'.whole ≡ flow.whole → IsBalanceOf I rows flow b → IsBalanceOf I rows flow' b'
balance_set I rows flow flow' b b' k y lt many carried same_cost written kept is = record {
  sized = carried.same_length ∙ is.sized;
  excess = rw written (excess_set rows (sends I) flow.entries b.excess b'.excess k y lt many carried is.excess);
  cost = rw (same_cost, kept) is.cost;
}

-- the rows once that of a numbered arc became another
pub rows_swapped : (I J : Instance) (rows rows' : List ArcRow) (k place : ℕ) (row : ArcRow) → 1 ≤ k → IsPlace I rows k place → rows ≡ (reduced I).arcs → rows' ≡ (reduced J).arcs → J ≡ with_row I (k - 1) row → rows' ≡ slice_set rows place row
rows_swapped I J rows rows' k place row one there before after other = after ∙ (rw (other, before, there.index_is) (sym (rows_changed I k row one)))

-- that row becomes another with the same ends
pub balance_swapped : (I J : Instance) (rows rows' : List ArcRow) (flow : TrackedView ℤ) (b b' : Balance) (k place : ℕ) (row : ArcRow) → 1 ≤ k → IsPlace I rows k place → rows ≡ (reduced I).arcs → rows' ≡ (reduced J).arcs → J ≡ with_row I (k - 1) row → row.tail ≡ (slice_index_or I.arcs (k - 1) row).tail → row.head ≡ (slice_index_or I.arcs (k - 1) row).head → length flow.entries ≡ length rows → length flow.whole ≡ length rows → b'.excess ≡ b.excess → b'.cost ≡ int_wrap w128 (b.cost +ℤ (row.cost -ℤ (row_at rows place).cost) *ℤ number_at flow.whole place) → IsBalanceOf I rows flow b → IsBalanceOf J rows' flow b'
balance_swapped I J rows rows' flow b b' k place row one there before after other tail head many as_many same_excess cost is =
    let rows_are = rows_swapped I J rows rows' k place row one there before after other in
    let excess = excess_row rows (sends I) flow.entries b.excess place row there.in_rows many (rw (there.row_is row) tail) (rw (there.row_is row) head) is.excess in
    record {
      sized = rw (same_excess, other) is.sized;
      excess = rw (same_excess, rows_are, other) excess;
      cost = rw rows_are (cost_row rows flow.whole b.cost b'.cost place row there.in_rows as_many cost is.cost);
    }

-- one node has another supply
pub balance_supplied : (I : Instance) (rows : List ArcRow) (flow : TrackedView ℤ) (b b' : Balance) (v : ℕ) (z : ℤ) → IsLawful I → kind_of I.demand ≡ Min → IsNodeOf I.nodes v → IsRaised v ((reduced I).supply v) z b.excess b'.excess → b'.cost ≡ b.cost → IsBalanceOf I rows flow b → IsBalanceOf (supplied I v z) rows flow b'
balance_supplied I rows flow b b' v z lawful kind node raised same_cost is = record {
  sized = raised.same_length ∙ is.sized;
  excess = excess_supplied rows (sends I) (sends (supplied I v z)) flow.entries b.excess b'.excess v ((reduced I).supply v) z (supplies_held I v z lawful kind node) raised is.excess;
  cost = same_cost ∙ is.cost;
}

-- ---- one arc more or less at the end

pub balance_put : (I J : Instance) (rows rows' : List ArcRow) (flow flow' : TrackedView ℤ) (b b' : Balance) (row : ArcRow) (y : ℤ) → J ≡ with_last I row → rows' ≡ rows ++ row ∷ [] → length flow.entries ≡ length rows → length flow.whole ≡ length rows → flow'.entries ≡ flow.entries ++ y ∷ [] → flow'.whole ≡ flow.whole ++ y ∷ [] → IsCarried row (pos 0) y b.excess b'.excess → b'.cost ≡ int_wrap w128 (b.cost +ℤ (y -ℤ pos 0) *ℤ row.cost) → IsBalanceOf I rows flow b → IsBalanceOf J rows' flow' b'
balance_put I J rows rows' flow flow' b b' row y other rows_are many as_many entries kept carried cost is = record {
  sized = rw other (carried.same_length ∙ is.sized);
  excess = rw (rows_are, entries, other) (excess_last rows (sends I) flow.entries b.excess b'.excess row y many carried is.excess);
  cost = rw (rows_are, kept) (cost_last rows flow.whole b.cost b'.cost row y as_many cost is.cost);
}

pub balance_dropped : (I J : Instance) (rows rows' : List ArcRow) (flow flow' : TrackedView ℤ) (b b' : Balance) (row : ArcRow) (y : ℤ) (last : ℕ) → I ≡ with_last J row → rows ≡ rows' ++ row ∷ [] → length flow.entries ≡ length rows → length flow.whole ≡ length rows → flow.entries ≡ flow'.entries ++ y ∷ [] → flow'.whole ≡ take (length flow'.entries) flow.whole → last ≡ length rows - 1 → IsCarried (row_at rows last) (number_at flow.entries last) (pos 0) b.excess b'.excess → b'.cost ≡ int_wrap w128 (b.cost +ℤ (pos 0 -ℤ number_at flow.whole last) *ℤ (row_at rows last).cost) → IsBalanceOf I rows flow b → IsBalanceOf J rows' flow' b'
balance_dropped I J rows rows' flow flow' b b' row y last other rows_are sized as_sized entries whole last_at carried cost is =
    let n = length flow'.entries in
    let z = number_at flow.whole last in
    let one_more : length rows ≡ length rows' + 1 = rw rows_are (length-append rows' (row ∷ [])) in
    let one_flow_more : length flow.entries ≡ n + 1 = rw entries (length-append flow'.entries (y ∷ [])) in
    let row_is : row_at rows last ≡ row = rw rows_are (get_or_push rows' row _ last (omega (arith, last_at, one_more))) in
    let entry_is : number_at flow.entries last ≡ y = rw entries (get_or_push flow'.entries y (pos 0) last (omega (arith, last_at, one_flow_more, sized))) in
    let at : n ≡ last = omega (arith, last_at, one_flow_more, sized) in
    let kept : flow.whole ≡ flow'.whole ++ z ∷ [] = sym (take_all (n + 1) flow.whole (omega (arith, as_sized, sized, one_flow_more))) ∙ take_more flow.whole n (pos 0) (omega (arith, as_sized, sized, one_flow_more)) ∙ (rw (whole, at) refl) in
    let as_many : length flow'.whole ≡ length rows' = rw whole (length-take-le n flow.whole (omega (arith, as_sized, sized, one_flow_more)) ∙ omega (arith, one_more, one_flow_more, sized)) in
    record {
      sized = carried.same_length ∙ is.sized ∙ (rw other refl);
      excess = excess_first rows' (sends J) flow'.entries b.excess b'.excess row y (omega (arith, one_more, one_flow_more, sized)) (rw (row_is, entry_is) at carried) (rw (rows_are, entries, other) at is.excess);
      cost = cost_first rows' flow'.whole b.cost b'.cost row z as_many (rw row_is at cost) (rw (rows_are, kept) at is.cost);
    }

-- ---- a snapshot

-- what stands in the table is kept
pub balance_kept : (I : Instance) (rows : List ArcRow) (flow flow' : TrackedView ℤ) (b b' : Balance) → flow'.entries ≡ flow.entries → flow'.whole ≡ flow.entries → b'.excess ≡ b.excess → IsWrappedCost rows flow.entries b'.cost → IsBalanceOf I rows flow b → IsBalanceOf I rows flow' b'
balance_kept I rows flow flow' b b' entries kept same_excess cost is = record { sized = rw same_excess is.sized; excess = rw (same_excess, entries) is.excess; cost = rw kept cost }

-- what was kept comes back
pub balance_back : (I : Instance) (rows : List ArcRow) (flow flow' : TrackedView ℤ) (b b' : Balance) → flow.whole ≡ flow.kept → flow'.entries ≡ flow.kept → flow'.whole ≡ flow.whole → length b'.excess ≡ length b.excess → IsWrappedExcess rows (sends I) flow.whole b'.excess → b'.cost ≡ b.cost → IsBalanceOf I rows flow b → IsBalanceOf I rows flow' b'
balance_back I rows flow flow' b b' all entries kept same_length excess same_cost is = record { sized = same_length ∙ is.sized; excess = rw (entries, ← all) excess; cost = rw (same_cost, kept) is.cost }
