-- Arrays without a fault say a problem that keeps the limits.
use Rattle.std.proofs.Common.{◌≡◌, ℕ, ◌<◌, ◌≤◌, ◌^◌, Bool, true, false, ◌&&◌, List, length, slice_index_or, Result, Ok, Err, ℤ, pos, neg_ℤ, ◌≤ℤ◌, int_le, refl, arith}
use Rattle.std.specs.Prelude.{nat_le, nat_lt, unsigned_abs}
use Rattle.std.specs.List.{All, AllPairs}
use Rattle.std.proofs.lemmas.Bool.{leb-true, and_parts}
use Rattle.std.proofs.lemmas.Int.{ints}
use Rattle.std.proofs.lemmas.List.FromFn.{get_or-map-range_with_len, length-map-range_with_len}
use Rattle.dimacs_lines.specs.Checks.{◌>>=◌, demand}
use Rattle.dimacs_lines.specs.declared.fault.LineFault.{LineFault}
use Rattle.dimacs_lines.specs.declared.fault.LineFault.TheVariants as of_line
use Rattle.dimacs_lines.specs.declared.numbers.TheConstants.{DIGIT_LIMIT}
use Rattle.dimacs_text.specs.declared.problem_fault.ProblemFault.TheVariants as fault
use Rattle.dimacs_text.specs.ProblemFault.{in_line}
use Rattle.dimacs_text.specs.declared.problem.ArcRow.{ArcRow}
use Rattle.dimacs_text.specs.declared.problem.Kind.TheVariants.{Min}
use Rattle.dimacs_text.specs.declared.problem.NodeMark.{NodeMark}
use Rattle.dimacs_text.specs.declared.problem.TheConstants.{NODE_LIMIT, ARC_LIMIT, CAP_LIMIT, COST_LIMIT, SUPPLY_LIMIT}
use Rattle.dimacs_text.specs.Lawful.{IsLawfulMark, IsLawfulRow, IsProblem, IsSupply, IsWithin, NamesOthers}
use Rattle.c_calls.specs.Arrays.{AreFaultless, array_row, array_rows, mark_at, supply_marks, test_bound, test_counts, test_integer, test_natural, test_row}
use Rattle.c_calls.specs.declared.arrays.Arrays.{Arrays}

-- ---- tests that pass

-- the first of two tests passes, and then the second
both_pass : {F : Type 0} (r : Result (Unit {0}) F) (next : Unit {0} → Result (Unit {0}) F) → (r >>= next) ≡ Ok tt → (r ≡ Ok tt) × (next tt ≡ Ok tt)
both_pass (Ok x) next e = (refl, e)
both_pass (Err f) next e = absurd cc

is_met : {F : Type 0} (met : Bool) (f : F) → demand met f ≡ Ok tt → met ≡ true
is_met true f e = refl
is_met false f e = absurd cc

is_met_then : {F : Type 0} (met : Bool) (f : F) (r : Result (Unit {0}) F) → (demand met f >>= λ _. r) ≡ Ok tt → (met ≡ true) × (r ≡ Ok tt)
is_met_then true f r e = (refl, e)
is_met_then false f r e = absurd cc

as_in_line : (r : Result (Unit {0}) LineFault) → in_line r ≡ Ok tt → r ≡ Ok tt
as_in_line (Ok x) e = refl
as_in_line (Err f) e = absurd cc

int_le-true : (a b : ℤ) → int_le a b ≡ true → a ≤ℤ b
int_le-true a b e = grind (arith, ints)

pub natural_within : (low high n : ℕ) → test_natural low high n ≡ Ok tt → (low ≤ n) × (n ≤ high)
unfolding test_natural
natural_within low high n passes =
    let passed = is_met_then (nat_lt n (10 ^ DIGIT_LIMIT)) of_line.NotANumber (demand (nat_le low n && nat_le n high) of_line.OutOfRange) passes in
    let range = and_parts (nat_le low n) (nat_le n high) (is_met (nat_le low n && nat_le n high) of_line.OutOfRange passed.1) in
    (leb-true low n range.0, leb-true n high range.1)

pub integer_within : (limit z : ℤ) → test_integer limit z ≡ Ok tt → IsWithin limit z
unfolding test_integer
integer_within limit z passes =
    let is_within = int_le (neg_ℤ limit) z && int_le z limit in
    let passed = is_met_then (nat_lt (unsigned_abs z) (10 ^ DIGIT_LIMIT)) of_line.NotANumber (demand is_within of_line.OutOfRange) passes in
    let range = and_parts (int_le (neg_ℤ limit) z) (int_le z limit) (is_met is_within of_line.OutOfRange passed.1) in
    (int_le-true (neg_ℤ limit) z range.0, int_le-true z limit range.1)

pub bound_within : (z : ℤ) → test_bound z ≡ Ok tt → (pos 0 ≤ℤ z) × (z ≤ℤ pos CAP_LIMIT)
unfolding test_bound
bound_within z passes =
    let passed = is_met_then (int_le (pos 0) z) of_line.NotANumber (test_natural 0 CAP_LIMIT (unsigned_abs z)) passes in
    let least = int_le-true (pos 0) z passed.0 in
    let most = (natural_within 0 CAP_LIMIT (unsigned_abs z) passed.1).1 in
    (least, omega (arith, ints))

pub counts_within : (nodes arcs : ℕ) → test_counts nodes arcs ≡ Ok tt → (1 ≤ nodes) × (nodes ≤ NODE_LIMIT) × (arcs ≤ ARC_LIMIT)
unfolding test_counts
counts_within nodes arcs passes =
    let parts = both_pass (test_natural 1 NODE_LIMIT nodes) _ passes in
    let of_nodes = natural_within 1 NODE_LIMIT nodes parts.0 in
    (of_nodes.0, of_nodes.1, (natural_within 0 ARC_LIMIT arcs parts.1).1)

pub row_lawful : (nodes : ℕ) (row : ArcRow) → test_row nodes row ≡ Ok tt → IsLawfulRow nodes row
unfolding test_row
row_lawful nodes row passes =
    let at_tail = both_pass (in_line (test_natural 1 nodes row.tail)) _ passes in
    let at_head = both_pass (in_line (test_natural 1 nodes row.head)) _ at_tail.1 in
    let at_low = both_pass (in_line (test_bound row.low)) _ at_head.1 in
    let at_cap = both_pass (in_line (test_bound row.cap)) _ at_low.1 in
    let at_cost = both_pass (in_line (test_integer COST_LIMIT row.cost)) _ at_cap.1 in
    let in_order = is_met (int_le row.low row.cap) fault.LowAboveCap at_cost.1 in
    record {
      tail = natural_within 1 nodes row.tail (as_in_line _ at_tail.0);
      head = natural_within 1 nodes row.head (as_in_line _ at_head.0);
      low = (bound_within row.low (as_in_line _ at_low.0)).0;
      cap = int_le-true row.low row.cap in_order;
      limit = (bound_within row.cap (as_in_line _ at_cap.0)).1;
      cost = integer_within COST_LIMIT row.cost (as_in_line _ at_cost.0);
    }

-- ---- the problem of arrays without a fault

mark-at : (supply : List ℤ) (place : ℕ) (d : NodeMark) → place < length (supply_marks supply) → slice_index_or (supply_marks supply) place d ≡ mark_at supply place
mark-at supply place d within =
    get_or-map-range_with_len (mark_at supply) 0 (length supply) place place d (omega (arith, length-map-range_with_len (mark_at supply) 0 (length supply))) (omega arith)

row-at : (a : Arrays) (place : ℕ) (d : ArcRow) → place < length (array_rows a) → slice_index_or (array_rows a) place d ≡ array_row a place
row-at a place d within =
    get_or-map-range_with_len (array_row a) 0 (length a.tail.now) place place d (omega (arith, length-map-range_with_len (array_row a) 0 (length a.tail.now))) (omega arith)

marks_count : (supply : List ℤ) → length (supply_marks supply) ≡ length supply
marks_count supply = length-map-range_with_len (mark_at supply) 0 (length supply)

rows_count : (a : Arrays) → length (array_rows a) ≡ length a.tail.now
rows_count a = length-map-range_with_len (array_row a) 0 (length a.tail.now)

each_mark : (a : Arrays) → AreFaultless a → All (IsLawfulMark (length a.supply.now)) (supply_marks a.supply.now)
each_mark a faultless place d within =
    let inside : place < length a.supply.now = omega (arith, marks_count a.supply.now) in
    rw (mark-at a.supply.now place d within) (record {
      node = (omega arith, omega arith);
      supply = integer_within SUPPLY_LIMIT _ (faultless.supplies place inside);
    })

once : (supply : List ℤ) → AllPairs NamesOthers (supply_marks supply)
once supply i j d before within =
    rw (mark-at supply i d (omega arith), mark-at supply j d within) (λ e. absurd (omega arith))

each_row : (a : Arrays) → AreFaultless a → All (IsLawfulRow (length a.supply.now)) (array_rows a)
each_row a faultless place d within =
    let inside : place < length a.tail.now = omega (arith, rows_count a) in
    rw (row-at a place d within) (row_lawful (length a.supply.now) (array_row a place) (faultless.arcs place inside))

supplies_alone : (supply : List ℤ) → All IsSupply (supply_marks supply)
supplies_alone supply place d within = rw (mark-at supply place d within) tt

pub is_problem : (a : Arrays) → AreFaultless a → IsProblem Min (length a.supply.now) (supply_marks a.supply.now) (array_rows a)
is_problem a faultless =
    let counts = counts_within (length a.supply.now) (length a.tail.now) faultless.counts in
    record {
      some_node = counts.0;
      node_limit = counts.1;
      arc_limit = omega (arith, rows_count a, counts.2);
      lawful = record { each_mark = each_mark a faultless; once = once a.supply.now; each_row = each_row a faultless };
      by_kind = supplies_alone a.supply.now;
    }
