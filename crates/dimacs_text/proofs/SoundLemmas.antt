-- What a draft keeps through a line that is taken.
use Rattle.std.proofs.Common.{◌≡◌, ◌≢◌, ℕ, ◌+◌, ◌-◌, ◌<◌, ◌≤◌, Bool, true, false, ◌||◌, cond, ◌==◌, eq-eqb, List, [], ◌∷◌, ◌++◌, length, get_or, set, take, replicate, Option, Some, None, refl, sym, ap, ◌∙◌, arith, inl, inr}
use Rattle.std.proofs.Math.Nat.{sub-zero}
use Rattle.std.specs.List.{All, AllPairs}
use Rattle.std.proofs.lemmas.Bool.{eqb-true, eqb-false, cases_lt, and_parts}
use Rattle.std.proofs.lemmas.List.{take_all, length-set, length_push, get_or-set_same, get_or-set_other, get_or_append_left, get_or_push, get_or-replicate, length-replicate}
use Rattle.std.proofs.lemmas.List.Elements.{All-push, All-nil}
use Rattle.std.proofs.lemmas.List.Folds.{list_any-append, list_any_at}
use Rattle.dimacs_text.specs.declared.problem.Kind.{Kind}
use Rattle.dimacs_text.specs.declared.problem.Kind.TheVariants.{Min, Max, Asn}
use Rattle.dimacs_text.specs.declared.problem.NodeMark.{NodeMark}
use Rattle.dimacs_text.specs.declared.problem.NodeMark.TheVariants.{Supply, Source, Sink, Side}
use Rattle.dimacs_text.specs.declared.problem.ArcRow.{ArcRow}
use Rattle.dimacs_text.specs.declared.problem.Size.{Size}
use Rattle.dimacs_text.specs.Problem.{node_of, is_named, has_source, has_sink, has_terminals}
use Rattle.dimacs_lines.specs.Fields.{IsNode}
use Rattle.dimacs_text.specs.Lawful.{IsLawfulSize, IsLawfulMark, IsLawfulRow, NamesOthers, AreLawful, FlagNamed, IsSupply, IsTerminal, IsSide, AreTerminals, MarksFit, RowFits, KeepsKind, IsMax, IsByKind, IsProblem, IsSized, IsSound}

-- ---- marks

-- no mark names a node that is not named
others_named : (marks : List NodeMark) (id i : ℕ) (d : NodeMark) → is_named id marks ≡ false → i < length marks → node_of (get_or marks i d) ≢ id
others_named marks id i d fresh lt e = absurd (false_true (sym fresh ∙ list_any_at (λ mark. node_of mark == id) marks i d lt (rw e (eqb-same id))))
  where
    false_true : false ≡ true → ⊥
    false_true h = cc

    eqb-same : (n : ℕ) → (n == n) ≡ true
    eqb-same n = eq-eqb n n refl

AllPairs-push : {X : Type 0} (R : X → X → Type 0) (xs : List X) (x : X) → AllPairs R xs → ((i : ℕ) (d : X) → i < length xs → R (get_or xs i d) x) → AllPairs R (xs ++ x ∷ [])
AllPairs-push R xs x pairs last i j d lt within =
    let j_within : j < length xs + 1 = omega (arith, length_push xs x) in
    elim (cases_lt j (length xs)) [
      | inl below ↦ rw (get_or_append_left xs (x ∷ []) d i (omega arith), get_or_append_left xs (x ∷ []) d j below) (pairs i j d lt below)
      | inr above ↦ rw (get_or_append_left xs (x ∷ []) d i (omega arith), get_or_push xs x d j (omega arith)) (last i d (omega arith))
    ]

-- ---- flags

or_last : (before here : Bool) → (before || (here || false)) ≡ cond here true before
or_last true true = refl
or_last true false = refl
or_last false true = refl
or_last false false = refl

flag_by : (same : Bool) (flags : List Bool) (marks : List NodeMark) (mark : NodeMark) (id : ℕ) → (node_of mark == id) ≡ same → 1 ≤ node_of mark → node_of mark ≤ length flags → 1 ≤ id
    → get_or flags (id - 1) false ≡ is_named id marks → get_or (set flags (node_of mark - 1) true) (id - 1) false ≡ cond same true (is_named id marks)
flag_by true flags marks mark id e some within id_some before =
    let place : id - 1 ≡ node_of mark - 1 = omega (arith, eqb-true _ _ e) in
    let inside : node_of mark - 1 < length flags = omega arith in
    rw place (get_or-set_same flags (node_of mark - 1) true false inside)
flag_by false flags marks mark id e some within id_some before =
    let ne = eqb-false _ _ e in
    let other : id - 1 ≢ node_of mark - 1 = omega arith in
    get_or-set_other flags (node_of mark - 1) (id - 1) true false other ∙ before

flags_with : (flags : List Bool) (nodes : ℕ) (marks : List NodeMark) (mark : NodeMark) → IsNode nodes (node_of mark) → FlagNamed flags nodes marks → FlagNamed (set flags (node_of mark - 1) true) nodes (marks ++ mark ∷ [])
flags_with flags nodes marks mark node before = record {
  len = length-set flags (node_of mark - 1) true ∙ before.len;
  named = λ id is_node. flag_by (node_of mark == id) flags marks mark id refl node.0 (omega (arith, node.1, before.len)) is_node.0 (before.named id is_node)
      ∙ sym (list_any-append (λ m. node_of m == id) marks (mark ∷ []) ∙ or_last (is_named id marks) (node_of mark == id));
}

-- ---- what is kept

no_marks : (kind : Kind) → MarksFit kind []
no_marks Min = All-nil IsSupply
no_marks Max = tt
no_marks Asn = All-nil IsSide

pub sized : (known : Option Size) (size : Size) (flags : List Bool) (marks : List NodeMark) (rows : List ArcRow) → known ≡ Some size → IsSound known flags marks rows → IsSized size flags marks rows
sized known size flags marks rows e sound = rw e at sound

pub sound_size : (flags : List Bool) (marks : List NodeMark) (rows : List ArcRow) (size : Size) → IsSound None flags marks rows → IsLawfulSize size → IsSound (Some size) (replicate size.nodes false) marks rows
sound_size flags marks rows size before lawful = rw (before.1, before.2) (record {
  sized = lawful;
  flagged = record {
    len = length-replicate size.nodes false;
    named = λ id is_node. get_or-replicate size.nodes (id - 1) false false (omega (arith, is_node.0, is_node.1));
  };
  count = omega arith;
  kept = record { marks_fit = no_marks size.kind; rows_fit = All-nil (RowFits size.kind []) };
  lawful = record {
    each_mark = All-nil (IsLawfulMark size.nodes);
    once = λ i j d lt within. absurd (omega arith);
    each_row = All-nil (IsLawfulRow size.nodes);
  };
})

pub sound_mark : (known : Option Size) (size : Size) (flags : List Bool) (marks : List NodeMark) (rows : List ArcRow) (mark : NodeMark) → known ≡ Some size → IsSound known flags marks rows
    → rows ≡ [] → IsLawfulMark size.nodes mark → (MarksFit size.kind marks → MarksFit size.kind (marks ++ mark ∷ [])) → is_named (node_of mark) marks ≡ false → IsSound known (set flags (node_of mark - 1) true) (marks ++ mark ∷ []) rows
sound_mark known size flags marks rows mark e sound no_rows lawful fits fresh =
    let before = sized known size flags marks rows e sound in
    rw e (record {
      sized = before.sized;
      flagged = flags_with flags size.nodes marks mark lawful.node before.flagged;
      count = before.count;
      kept = record { marks_fit = fits before.kept.marks_fit; rows_fit = rw no_rows (All-nil (RowFits size.kind (marks ++ mark ∷ []))) };
      lawful = record {
        each_mark = All-push (IsLawfulMark size.nodes) marks mark before.lawful.each_mark lawful;
        once = AllPairs-push NamesOthers marks mark before.lawful.once (λ i d lt. others_named marks (node_of mark) i d fresh lt);
        each_row = before.lawful.each_row;
      };
    })

pub sound_row : (known : Option Size) (size : Size) (flags : List Bool) (marks : List NodeMark) (rows : List ArcRow) (row : ArcRow) → known ≡ Some size → IsSound known flags marks rows
    → IsLawfulRow size.nodes row → RowFits size.kind marks row → length rows < size.arcs → IsSound known flags marks (rows ++ row ∷ [])
sound_row known size flags marks rows row e sound lawful fits room =
    let before = sized known size flags marks rows e sound in
    rw e (record {
      sized = before.sized;
      flagged = before.flagged;
      count = omega (arith, length_push rows row);
      kept = record { marks_fit = before.kept.marks_fit; rows_fit = All-push (RowFits size.kind marks) rows row before.kept.rows_fit fits };
      lawful = record {
        each_mark = before.lawful.each_mark;
        once = before.lawful.once;
        each_row = All-push (IsLawfulRow size.nodes) rows row before.lawful.each_row lawful;
      };
    })

pub empty_before : (known : Option Size) (flags : List Bool) (marks : List NodeMark) (rows : List ArcRow) → known ≡ None → IsSound known flags marks rows → (flags ≡ []) × (marks ≡ []) × (rows ≡ [])
empty_before known flags marks rows e sound = rw e at sound

pub sound_resized : (known : Option Size) (flags new : List Bool) (marks : List NodeMark) (rows : List ArcRow) (size : Size) (len : ℕ) → known ≡ None → IsSound known flags marks rows → IsLawfulSize size
    → len ≡ length flags → new ≡ take size.nodes flags ++ replicate (size.nodes - len) false → IsSized size new marks rows
sound_resized known flags new marks rows size len e sound lawful len_is new_is =
    let empty = empty_before known flags marks rows e sound in
    let none : len ≡ 0 = len_is ∙ ap (λ (f : List Bool). length f) empty.0 in
    let made : new ≡ replicate size.nodes false = new_is ∙ rw (empty.0, none, take_all {A = Bool} size.nodes [] (omega arith), sub-zero) refl in
    rw made (sound_size flags marks rows size empty lawful)

-- ---- what a draft gives in which no line is missing

two_terminals : (nodes : ℕ) (marks : List NodeMark) (rows : List ArcRow) → AreTerminals marks → AreLawful nodes marks rows → All (RowFits Max marks) rows → has_source marks ≡ true → has_sink marks ≡ true → IsMax nodes marks rows
two_terminals nodes [] rows are lawful fit source sink = absurd cc
two_terminals nodes (Supply a value ∷ []) rows are lawful fit source sink = absurd are
two_terminals nodes (Side a ∷ []) rows are lawful fit source sink = absurd are
two_terminals nodes (Source a ∷ []) rows are lawful fit source sink = absurd cc
two_terminals nodes (Sink a ∷ []) rows are lawful fit source sink = absurd cc
two_terminals nodes (Source a ∷ Sink b ∷ []) rows are lawful fit source sink = record {
  terminals = All-push IsTerminal (Source a ∷ []) (Sink b) (All-push IsTerminal [] (Source a) (All-nil IsTerminal) tt) tt;
  two = refl;
  source = (lawful.each_mark 0 (Source 0) (omega arith)).node;
  sink = (lawful.each_mark 1 (Source 0) (omega arith)).node;
  different = lawful.once 0 1 (Source 0) (omega arith) (omega arith);
  rows_fit = fit;
}
two_terminals nodes (Sink a ∷ Source b ∷ []) rows are lawful fit source sink = record {
  terminals = All-push IsTerminal (Sink a ∷ []) (Source b) (All-push IsTerminal [] (Sink a) (All-nil IsTerminal) tt) tt;
  two = refl;
  source = (lawful.each_mark 1 (Source 0) (omega arith)).node;
  sink = (lawful.each_mark 0 (Source 0) (omega arith)).node;
  different = λ e. lawful.once 0 1 (Source 0) (omega arith) (omega arith) (sym e);
  rows_fit = fit;
}
two_terminals nodes (first ∷ second ∷ []) rows are lawful fit source sink = absurd are
two_terminals nodes (first ∷ second ∷ third ∷ marks) rows are lawful fit source sink = absurd are

by_kind : (kind : Kind) (nodes : ℕ) (marks : List NodeMark) (rows : List ArcRow) → KeepsKind kind marks rows → AreLawful nodes marks rows → has_terminals kind marks ≡ true → IsByKind kind nodes marks rows
by_kind Min nodes marks rows kept lawful named = kept.marks_fit
by_kind Max nodes marks rows kept lawful named =
    let both = and_parts (has_source marks) (has_sink marks) named in
    two_terminals nodes marks rows kept.marks_fit lawful kept.rows_fit both.0 both.1
by_kind Asn nodes marks rows kept lawful named = record { sides = kept.marks_fit; rows_fit = kept.rows_fit }

pub problem_of : (known : Option Size) (size : Size) (flags : List Bool) (marks : List NodeMark) (rows : List ArcRow) → known ≡ Some size → IsSound known flags marks rows → has_terminals size.kind marks ≡ true
    → IsProblem size.kind size.nodes marks rows
problem_of known size flags marks rows e sound named =
    let before = sized known size flags marks rows e sound in
    record {
      some_node = before.sized.some_node;
      node_limit = before.sized.nodes;
      arc_limit = omega (arith, before.count, before.sized.arcs);
      lawful = before.lawful;
      by_kind = by_kind size.kind size.nodes marks rows before.kept before.lawful named;
    }
