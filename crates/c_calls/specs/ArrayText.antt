-- The text that says what arrays say, with a node line for each supply and an arc line for each arc.
use Rattle.std.specs.Prelude.{ℕ, ◌+◌, ◌<◌, ◌≤◌, ◌^◌, ℤ, unsigned_abs, List, [], ◌∷◌, ◌++◌, map, length, flat_map, codes, All, slice_index_or, pos, ◌==◌, if◌then◌else◌}
use Rattle.std.specs.Fmt.{decimal, signed_decimal}
use Rattle.std.specs.List.{range_with_len}
use Rattle.dimacs_lines.specs.Fields.{Word}
use Rattle.dimacs_lines.specs.Lines.{Line}
use Rattle.dimacs_text.specs.declared.problem.ArcRow.{ArcRow}
use Rattle.c_calls.specs.Arrays.{array_row}
use Rattle.c_calls.specs.declared.array_fault.ArrayFault.{ArrayFault}
use Rattle.c_calls.specs.declared.arrays.Arrays.{Arrays}

-- words, each after a blank
abbrev pub spaced : List Word → Line
spaced [] = []
spaced (word ∷ words) = codes " " ++ word ++ spaced words

-- `p min NODES ARCS`
abbrev pub size_line : ℕ → ℕ → Line
size_line nodes arcs = codes "p" ++ spaced (codes "min" ∷ decimal nodes ∷ decimal arcs ∷ [])

-- `n ID FLOW`
abbrev pub node_line : ℕ → ℤ → Line
node_line id supply = codes "n" ++ spaced (decimal id ∷ signed_decimal supply ∷ [])

-- `a SRC DST LOW CAP COST`
abbrev pub arc_line : ArcRow → Line
arc_line row = codes "a" ++ spaced (decimal row.tail ∷ decimal row.head ∷ signed_decimal row.low ∷ signed_decimal row.cap ∷ signed_decimal row.cost ∷ [])

-- the line of the node whose supply is in a place, and that of the arc in a place
abbrev pub node_line_at : List ℤ → ℕ → Line
node_line_at supply place = node_line (place + 1) (slice_index_or supply place (pos 0))

abbrev pub arc_line_at : Arrays → ℕ → Line
arc_line_at a place = arc_line (array_row a place)

abbrev pub node_lines : List ℤ → List Line
node_lines supply = map (node_line_at supply) (range_with_len 0 (length supply))

abbrev pub arc_lines : Arrays → List Line
arc_lines a = map (arc_line_at a) (range_with_len 0 (length a.tail.now))

-- the problem line, the node lines and the arc lines, each with its line feed
abbrev pub array_text : Arrays → List ℕ
array_text a = flat_map (λ line. line ++ codes "\n") (size_line (length a.supply.now) (length a.tail.now) ∷ (node_lines a.supply.now ++ arc_lines a))

-- the line of what has a fault
abbrev pub fault_line : Arrays → ArrayFault → ℕ
fault_line a f = if f.arc == 0 then 1 + f.node else 1 + length a.supply.now + f.arc

-- the numbers are such as their types hold
pub record FitTheirTypes (a : Arrays) : Type 0 where
  pub nodes : length a.supply.now < 2 ^ 64
  pub arcs : length a.tail.now < 2 ^ 64
  pub supplies : All (λ z. unsigned_abs z ≤ 2 ^ 63) a.supply.now
  pub tails : All (λ n. n < 2 ^ 32) a.tail.now
  pub heads : All (λ n. n < 2 ^ 32) a.head.now
  pub lows : All (λ z. unsigned_abs z ≤ 2 ^ 63) a.low.now
  pub caps : All (λ z. unsigned_abs z ≤ 2 ^ 63) a.cap.now
  pub costs : All (λ z. unsigned_abs z ≤ 2 ^ 63) a.cost.now
