-- A problem of the kind `min` by arrays: what they say, and their first fault.
use Rattle.std.specs.Prelude.{◌≡◌, ◌⊎◌, ℕ, ◌+◌, ◌<◌, ◌^◌, ℤ, pos, neg_ℤ, int_le, unsigned_abs, ◌&&◌, List, map, length, slice_index_or, Result, Ok, Err, nat_le, nat_lt}
use Rattle.std.specs.List.{range_with_len}
use Rattle.dimacs_lines.specs.Checks.{◌>>=◌, demand}
use Rattle.dimacs_lines.specs.declared.fault.LineFault.{LineFault}
use Rattle.dimacs_lines.specs.declared.fault.LineFault.TheVariants as of_line
use Rattle.dimacs_lines.specs.declared.numbers.TheConstants.{DIGIT_LIMIT}
use Rattle.dimacs_text.specs.Reading.{ProblemValue}
use Rattle.dimacs_text.specs.declared.problem_fault.ProblemFault.{ProblemFault}
use Rattle.dimacs_text.specs.declared.problem_fault.ProblemFault.TheVariants as fault
use Rattle.dimacs_text.specs.ProblemFault.{number_of, in_line}
use Rattle.dimacs_text.specs.declared.problem.ArcRow.{ArcRow}
use Rattle.dimacs_text.specs.declared.problem.Kind.TheVariants.{Min}
use Rattle.dimacs_text.specs.declared.problem.NodeMark.{NodeMark}
use Rattle.dimacs_text.specs.declared.problem.NodeMark.TheVariants.{Supply}
use Rattle.dimacs_text.specs.declared.problem.TheConstants.{NODE_LIMIT, ARC_LIMIT, CAP_LIMIT, COST_LIMIT, SUPPLY_LIMIT}
use Rattle.session.specs.Step.{SessionState}
use Rattle.c_calls.specs.Library.{IsOpeningOf}
use Rattle.c_calls.specs.declared.array_fault.ArrayFault.{ArrayFault}
use Rattle.c_calls.specs.declared.arrays.Arrays.{Arrays}
use Rattle.c_calls.specs.declared.status.TheConstants.{FAULT, MEMORY, OTHER_LENGTH}

-- ---- the problem

-- each array of arcs has as many entries as the first
pub record IsEven (a : Arrays) : Type 0 where
  pub heads : length a.head.now ≡ length a.tail.now
  pub lows : length a.low.now ≡ length a.tail.now
  pub caps : length a.cap.now ≡ length a.tail.now
  pub costs : length a.cost.now ≡ length a.tail.now

-- the arc in a place
abbrev pub array_row : Arrays → ℕ → ArcRow
array_row a place = record {
  tail = slice_index_or a.tail.now place 0;
  head = slice_index_or a.head.now place 0;
  low = slice_index_or a.low.now place (pos 0);
  cap = slice_index_or a.cap.now place (pos 0);
  cost = slice_index_or a.cost.now place (pos 0);
}

abbrev pub array_rows : Arrays → List ArcRow
array_rows a = map (array_row a) (range_with_len 0 (length a.tail.now))

-- what a node line says of the node whose supply is in a place
abbrev pub mark_at : List ℤ → ℕ → NodeMark
mark_at supply place = Supply (place + 1) (slice_index_or supply place (pos 0))

abbrev pub supply_marks : List ℤ → List NodeMark
supply_marks supply = map (mark_at supply) (range_with_len 0 (length supply))

-- a node for each supply, and the arcs between them
abbrev pub problem_of : Arrays → ProblemValue
problem_of a = record { kind = Min; nodes = length a.supply.now; marks = supply_marks a.supply.now; arcs = array_rows a }

-- ---- faults

-- the fault of a number as the field of a line, as in `natural_in`: it has too many digits, or is out of range
unfoldable pub test_natural : ℕ → ℕ → ℕ → Result (Unit {0}) LineFault
test_natural low high n = demand (nat_lt n (10 ^ DIGIT_LIMIT)) of_line.NotANumber >>= λ _. demand (nat_le low n && nat_le n high) of_line.OutOfRange

-- the same where a sign is allowed, as in `integer_in`
unfoldable pub test_integer : ℤ → ℤ → Result (Unit {0}) LineFault
test_integer limit z = demand (nat_lt (unsigned_abs z) (10 ^ DIGIT_LIMIT)) of_line.NotANumber >>= λ _. demand (int_le (neg_ℤ limit) z && int_le z limit) of_line.OutOfRange

-- a lower bound or a capacity: no sign is allowed
unfoldable pub test_bound : ℤ → Result (Unit {0}) LineFault
test_bound z = demand (int_le (pos 0) z) of_line.NotANumber >>= λ _. test_natural 0 CAP_LIMIT (unsigned_abs z)

-- how many nodes and arcs there are, as a problem line says it
unfoldable pub test_counts : ℕ → ℕ → Result (Unit {0}) LineFault
test_counts nodes arcs = test_natural 1 NODE_LIMIT nodes >>= λ _. test_natural 0 ARC_LIMIT arcs

-- an arc, as an arc line says it
unfoldable pub test_row : ℕ → ArcRow → Result (Unit {0}) ProblemFault
test_row nodes row = do
  _ ← in_line (test_natural 1 nodes row.tail)
  _ ← in_line (test_natural 1 nodes row.head)
  _ ← in_line (test_bound row.low)
  _ ← in_line (test_bound row.cap)
  _ ← in_line (test_integer COST_LIMIT row.cost)
  demand (int_le row.low row.cap) fault.LowAboveCap

abbrev pub AreCountsFaultless : Arrays → Type 0
AreCountsFaultless a = test_counts (length a.supply.now) (length a.tail.now) ≡ Ok tt

abbrev pub AreSuppliesFaultless : List ℤ → Type 0
AreSuppliesFaultless supply = (place : ℕ) → place < length supply → test_integer SUPPLY_LIMIT (slice_index_or supply place (pos 0)) ≡ Ok tt

abbrev pub AreArcsFaultless : Arrays → Type 0
AreArcsFaultless a = (place : ℕ) → place < length a.tail.now → test_row (length a.supply.now) (array_row a place) ≡ Ok tt

pub record AreFaultless (a : Arrays) : Type 0 where
  pub counts : AreCountsFaultless a
  pub supplies : AreSuppliesFaultless a.supply.now
  pub arcs : AreArcsFaultless a

-- a test fails by the fault of this number
abbrev pub FailsBy : Result (Unit {0}) ProblemFault → ℕ → Type 0
FailsBy (Ok _) number = ⊥
FailsBy (Err found) number = number ≡ number_of found

-- it is the fault of the counts
pub record IsCountFault (a : Arrays) (f : ArrayFault) : Type 0 where
  pub node : f.node ≡ 0
  pub arc : f.arc ≡ 0
  pub number : FailsBy (in_line (test_counts (length a.supply.now) (length a.tail.now))) f.number

-- it is the fault of the first node whose supply has one
pub record IsNodeFault (supply : List ℤ) (f : ArrayFault) : Type 0 where
  pub place : ℕ
  pub within : place < length supply
  pub node : f.node ≡ place + 1
  pub arc : f.arc ≡ 0
  pub before : (i : ℕ) → i < place → test_integer SUPPLY_LIMIT (slice_index_or supply i (pos 0)) ≡ Ok tt
  pub number : FailsBy (in_line (test_integer SUPPLY_LIMIT (slice_index_or supply place (pos 0)))) f.number

-- it is the fault of the first arc that has one
pub record IsArcFault (a : Arrays) (f : ArrayFault) : Type 0 where
  pub place : ℕ
  pub within : place < length a.tail.now
  pub node : f.node ≡ 0
  pub arc : f.arc ≡ place + 1
  pub before : (i : ℕ) → i < place → test_row (length a.supply.now) (array_row a i) ≡ Ok tt
  pub number : FailsBy (test_row (length a.supply.now) (array_row a place)) f.number

-- counts come before supplies, and these before arcs
abbrev pub IsFirstFault : Arrays → ArrayFault → Type 0
IsFirstFault a f =
    IsCountFault a f
    ⊎ ((AreCountsFaultless a × IsNodeFault a.supply.now f)
    ⊎ (AreCountsFaultless a × AreSuppliesFaultless a.supply.now × IsArcFault a f))

-- ---- opening

-- a session begins with the problem of the arrays, which have no fault
pub record IsOpeningBy (a : Arrays) (extra : ℕ) (s : SessionState) : Type 0 where
  pub even : IsEven a
  pub faultless : AreFaultless a
  pub opening : IsOpeningOf (problem_of a) extra s

-- no session begins: by arrays of different lengths, by their first fault, or for want of memory
abbrev pub IsNotOpenedBy : Arrays → ℤ → ArrayFault → ArrayFault → Type 0
IsNotOpenedBy a status old new =
    ((status ≡ OTHER_LENGTH) × (IsEven a → ⊥) × (new ≡ old))
    ⊎ (((status ≡ FAULT) × IsEven a × IsFirstFault a new)
    ⊎ ((status ≡ MEMORY) × (new ≡ old)))
