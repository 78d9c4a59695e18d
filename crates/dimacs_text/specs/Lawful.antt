-- The limits and rules that a problem keeps.
use Rattle.std.specs.Prelude.{◌≡◌, ◌≢◌, ℕ, ◌-◌, ◌≤◌, Bool, true, false, List, [], ◌∷◌, Option, Some, None, length, ℤ, pos, neg_ℤ, ◌≤ℤ◌, slice_index_or}
use Rattle.std.specs.List.{All, AllPairs}
use Rattle.dimacs_lines.specs.Fields.{IsNode}
use Rattle.dimacs_text.specs.declared.problem.Kind.{Kind}
use Rattle.dimacs_text.specs.declared.problem.Kind.TheVariants.{Min, Max, Asn}
use Rattle.dimacs_text.specs.declared.problem.NodeMark.{NodeMark}
use Rattle.dimacs_text.specs.declared.problem.NodeMark.TheVariants.{Supply, Source, Sink, Side}
use Rattle.dimacs_text.specs.declared.problem.ArcRow.{ArcRow}
use Rattle.dimacs_text.specs.declared.problem.Size.{Size}
use Rattle.dimacs_text.specs.declared.problem.TheConstants.{NODE_LIMIT, ARC_LIMIT, CAP_LIMIT, COST_LIMIT, SUPPLY_LIMIT}
use Rattle.dimacs_text.specs.Problem.{node_of, is_named, source_of, sink_of}

-- a number is at most the limit, either way
abbrev pub IsWithin : ℤ → ℤ → Type 0
IsWithin limit z = (neg_ℤ limit ≤ℤ z) × (z ≤ℤ limit)

pub record IsLawfulSize (size : Size) : Type 0 where
  pub some_node : 1 ≤ size.nodes
  pub nodes : size.nodes ≤ NODE_LIMIT
  pub arcs : size.arcs ≤ ARC_LIMIT

abbrev pub HasLawfulSupply : NodeMark → Type 0
HasLawfulSupply (Supply id value) = IsWithin SUPPLY_LIMIT value
HasLawfulSupply (Source id) = Unit {0}
HasLawfulSupply (Sink id) = Unit {0}
HasLawfulSupply (Side id) = Unit {0}

pub record IsLawfulMark (nodes : ℕ) (mark : NodeMark) : Type 0 where
  pub node : IsNode nodes (node_of mark)
  pub supply : HasLawfulSupply mark

pub record IsLawfulRow (nodes : ℕ) (row : ArcRow) : Type 0 where
  pub tail : IsNode nodes row.tail
  pub head : IsNode nodes row.head
  pub low : pos 0 ≤ℤ row.low
  pub cap : row.low ≤ℤ row.cap
  pub limit : row.cap ≤ℤ pos CAP_LIMIT
  pub cost : IsWithin COST_LIMIT row.cost

abbrev pub NamesOthers : NodeMark → NodeMark → Type 0
NamesOthers a b = node_of a ≢ node_of b

-- marks and rows of a problem with so many nodes
pub record AreLawful (nodes : ℕ) (marks : List NodeMark) (rows : List ArcRow) : Type 0 where
  pub each_mark : All (IsLawfulMark nodes) marks
  pub once : AllPairs NamesOthers marks
  pub each_row : All (IsLawfulRow nodes) rows

abbrev pub IsSupply : NodeMark → Type 0
IsSupply (Supply id value) = Unit {0}
IsSupply _ = ⊥

abbrev pub IsTerminal : NodeMark → Type 0
IsTerminal (Source id) = Unit {0}
IsTerminal (Sink id) = Unit {0}
IsTerminal _ = ⊥

abbrev pub IsSide : NodeMark → Type 0
IsSide (Side id) = Unit {0}
IsSide _ = ⊥

-- `max`: one source and one sink, on different nodes; arcs have no lower bound and no cost
pub record IsMax (nodes : ℕ) (marks : List NodeMark) (rows : List ArcRow) : Type 0 where
  pub terminals : All IsTerminal marks
  pub two : length marks ≡ 2
  pub source : IsNode nodes (source_of marks)
  pub sink : IsNode nodes (sink_of marks)
  pub different : source_of marks ≢ sink_of marks
  pub rows_fit : All (λ row. (row.low ≡ pos 0) × (row.cost ≡ pos 0)) rows

-- `asn`: the nodes that are named are the source side, and each arc leads from it to the other side and has capacity 1
pub record IsAsn (marks : List NodeMark) (rows : List ArcRow) : Type 0 where
  pub sides : All IsSide marks
  pub rows_fit : All (λ row. (row.low ≡ pos 0) × (row.cap ≡ pos 1) × (is_named row.tail marks ≡ true) × (is_named row.head marks ≡ false)) rows

-- what the kind asks for
abbrev pub IsByKind : Kind → ℕ → List NodeMark → List ArcRow → Type 0
IsByKind Min nodes marks rows = All IsSupply marks
IsByKind Max nodes marks rows = IsMax nodes marks rows
IsByKind Asn nodes marks rows = IsAsn marks rows

-- a problem: its numbers are within the limits, each node is named once, arcs join its nodes, and its kind is kept
pub record IsProblem (kind : Kind) (nodes : ℕ) (marks : List NodeMark) (rows : List ArcRow) : Type 0 where
  pub some_node : 1 ≤ nodes
  pub node_limit : nodes ≤ NODE_LIMIT
  pub arc_limit : length rows ≤ ARC_LIMIT
  pub lawful : AreLawful nodes marks rows
  pub by_kind : IsByKind kind nodes marks rows

-- each flag says whether its node is named
pub record FlagNamed (flags : List Bool) (nodes : ℕ) (marks : List NodeMark) : Type 0 where
  pub len : length flags ≡ nodes
  pub named : (id : ℕ) → IsNode nodes id → slice_index_or flags (id - 1) false ≡ is_named id marks

-- one is the source, the other the sink
abbrev pub AreOpposite : NodeMark → NodeMark → Type 0
AreOpposite (Source source) (Sink sink) = Unit {0}
AreOpposite (Sink sink) (Source source) = Unit {0}
AreOpposite _ _ = ⊥

-- one source at most, one sink at most, and nothing else
abbrev pub AreTerminals : List NodeMark → Type 0
AreTerminals [] = Unit {0}
AreTerminals (first ∷ []) = IsTerminal first
AreTerminals (first ∷ second ∷ []) = AreOpposite first second
AreTerminals (first ∷ second ∷ third ∷ marks) = ⊥

-- the marks that a draft of the kind may have
abbrev pub MarksFit : Kind → List NodeMark → Type 0
MarksFit Min marks = All IsSupply marks
MarksFit Max marks = AreTerminals marks
MarksFit Asn marks = All IsSide marks

-- a row that a draft of the kind may have beside its marks
abbrev pub RowFits : Kind → List NodeMark → ArcRow → Type 0
RowFits Min marks row = Unit {0}
RowFits Max marks row = (row.low ≡ pos 0) × (row.cost ≡ pos 0)
RowFits Asn marks row = (row.low ≡ pos 0) × (row.cap ≡ pos 1) × (is_named row.tail marks ≡ true) × (is_named row.head marks ≡ false)

-- what a draft keeps for its kind; a source or a sink may still be missing
pub record KeepsKind (kind : Kind) (marks : List NodeMark) (rows : List ArcRow) : Type 0 where
  pub marks_fit : MarksFit kind marks
  pub rows_fit : All (RowFits kind marks) rows

-- what a draft keeps
pub record IsSized (size : Size) (flags : List Bool) (marks : List NodeMark) (rows : List ArcRow) : Type 0 where
  pub sized : IsLawfulSize size
  pub flagged : FlagNamed flags size.nodes marks
  pub count : length rows ≤ size.arcs
  pub kept : KeepsKind size.kind marks rows
  pub lawful : AreLawful size.nodes marks rows

abbrev pub IsSound : Option Size → List Bool → List NodeMark → List ArcRow → Type 0
IsSound None flags marks rows = (flags ≡ []) × (marks ≡ []) × (rows ≡ [])
IsSound (Some size) flags marks rows = IsSized size flags marks rows
