-- The supplies that the marks of a problem give, and the instance that it begins with.
use Rattle.std.proofs.Common.{◌≡◌, ◌≢◌, ℕ, suc, ◌+◌, ◌-◌, ◌<◌, ◌≤◌, ◌==◌, ℤ, pos, neg_ℤ, int_lt, inr, Bool, true, false, true≢false, ◌||◌, if◌then◌else◌, List, [], ◌∷◌, length, map, drop, set, slice_index_or, get_or, All, refl, sym, ap, ◌∙◌, arith, eqb-true, eq-eqb, ne_eqb, get_or-set_same, get_or-set_other, drop-cons, length-drop, add-one}
use Rattle.std.proofs.lemmas.Int.{ints}
use Rattle.std.proofs.lemmas.List.{same_lists, get_or-drop, get_or_default}
use Rattle.std.proofs.lemmas.List.Elements.{All-head, All-tail, recursion_from_All}
use Rattle.std.proofs.lemmas.List.FromFn.{get_or-map-range_with_len, length-map-range_with_len}
use Rattle.std.specs.List.{AllPairs, AllByRecursion, range_with_len}
use Rattle.dimacs_text.specs.declared.problem.ArcRow.{ArcRow}
use Rattle.dimacs_text.specs.declared.problem.Kind.{Kind}
use Rattle.dimacs_text.specs.declared.problem.Kind.TheVariants.{Min, Max, Asn}
use Rattle.dimacs_text.specs.declared.problem.NodeMark.{NodeMark}
use Rattle.dimacs_text.specs.declared.problem.NodeMark.TheVariants.{Supply, Source, Sink, Side}
use Rattle.dimacs_text.specs.declared.problem.TheConstants.{SUPPLY_LIMIT}
use Rattle.dimacs_text.specs.Lawful.{NamesOthers, IsProblem, IsLawfulMark, HasLawfulSupply, IsSupply, IsTerminal, IsSide, IsWithin}
use Rattle.dimacs_text.specs.Problem.{node_of, is_named, supply_at}
use Rattle.dimacs_text.specs.Reading.{ProblemValue}
use Rattle.network.specs.Instance.{Supplies, Sides, DemandFits, ArcFits, IsLawful, at_node, by_node, demand_of, first, reduced_supply}
use Rattle.network.specs.Representation.{demand_by, instance_of, CanBegin}
use Rattle.network.specs.Start.{goal_of, marked_supply, supply_or, unmarked_supply}

-- ---- lists with one entry a node

pub at-by_node : {A : Type 0} (n : ℕ) (f : ℕ → A) (v : ℕ) (d : A) → 1 ≤ v → v ≤ n → slice_index_or (by_node n f) (v - 1) d ≡ f v
at-by_node n f v d least most = get_or-map-range_with_len f 1 n (v - 1) v d (omega arith) (omega arith)

pub by_node-from_entries : {A : Type 0} (xs : List A) (n : ℕ) (f : ℕ → A) → length xs ≡ n → ((v : ℕ) (d : A) → 1 ≤ v → v ≤ n → slice_index_or xs (v - 1) d ≡ f v) → xs ≡ by_node n f
by_node-from_entries xs n f len same =
    let count = length-map-range_with_len f 1 n in
    same_lists xs (by_node n f) (len ∙ sym count) (λ k d below.
    let back : k + 1 - 1 ≡ k = omega arith in
    let here : slice_index_or xs k d ≡ f (k + 1) = rw back at (same (k + 1) d (omega arith) (omega arith)) in
    here ∙ sym (get_or-map-range_with_len f 1 n k (k + 1) d (omega arith) (omega arith)))

pub at_node-set : (entries : List ℤ) (u v : ℕ) (x : ℤ) → 1 ≤ u → u ≤ length entries → 1 ≤ v → at_node (set entries (u - 1) x) v ≡ (if u == v then x else at_node entries v)
at_node-set entries u v x low high least = by (u == v) refl
  where
    by : (b : Bool) → (u == v) ≡ b → at_node (set entries (u - 1) x) v ≡ (if b then x else at_node entries v)
    by true same = let e = eqb-true u v same in rw (← e) (get_or-set_same entries (u - 1) x (pos 0) (omega arith))
    by false other = get_or-set_other entries (u - 1) (v - 1) x (pos 0) (λ e. true≢false (sym (eq-eqb u v (omega arith)) ∙ other))

-- ---- supplies by marks

pub supply_or-unnamed : (marks : List NodeMark) (v : ℕ) (none : ℤ) → All (λ mark. node_of mark ≢ v) marks → supply_or marks v none ≡ none
supply_or-unnamed [] v none others = refl
supply_or-unnamed (mark ∷ marks) v none others =
    rw (ne_eqb (node_of mark) v (All-head (λ m. node_of m ≢ v) mark marks others)) (supply_or-unnamed marks v none (All-tail (λ m. node_of m ≢ v) mark marks others))

-- a mark's supply may be put in at once, since no later mark names its node
pub supply_or-step : (marks : List NodeMark) (i : ℕ) (d : NodeMark) (v : ℕ) (none : ℤ) → AllPairs NamesOthers marks → i < length marks
    → supply_or (drop i marks) v none ≡ supply_or (drop (i + 1) marks) v (if node_of (get_or marks i d) == v then marked_supply (get_or marks i d) else none)
supply_or-step marks i d v none once below = rw (add-one, drop-cons marks i d below) (by (node_of (get_or marks i d) == v) refl)
  where
    later : node_of (get_or marks i d) ≡ v → All (λ mark. node_of mark ≢ v) (drop (suc i) marks)
    later e k d' inside =
        let past = length-drop (suc i) marks in
        rw (get_or-drop (suc i) marks k d') (λ same. once i (suc i + k) d' (omega arith) (omega arith) (ap node_of (get_or_default marks i d' d below) ∙ e ∙ sym same))

    by : (b : Bool) → (node_of (get_or marks i d) == v) ≡ b
        → (if b then marked_supply (get_or marks i d) else supply_or (drop (suc i) marks) v none) ≡ supply_or (drop (suc i) marks) v (if b then marked_supply (get_or marks i d) else none)
    by true same = sym (supply_or-unnamed (drop (suc i) marks) v (marked_supply (get_or marks i d)) (later (eqb-true _ _ same)))
    by false other = refl

-- ---- each node's supply in the reduced instance

map-same : {A : Type 0} (f g : ℕ → A) → ((v : ℕ) → f v ≡ g v) → (xs : List ℕ) → map f xs ≡ map g xs
map-same f g same [] = refl
map-same f g same (x ∷ xs) = rw (same x) (ap (λ (ys : List _). g x ∷ ys) (map-same f g same xs))

map-map : {A B : Type 0} (h : A → B) (f : ℕ → A) (xs : List ℕ) → map h (map f xs) ≡ map (λ v. h (f v)) xs
map-map h f [] = refl
map-map h f (x ∷ xs) = ap (λ (ys : List _). h (f x) ∷ ys) (map-map h f xs)

supplied : (marks : List NodeMark) (v : ℕ) → AllByRecursion IsSupply marks → supply_or marks v (pos 0) ≡ supply_at marks v
supplied [] v all = refl
supplied (Supply id value ∷ marks) v all = rw (supplied marks v all.1) refl
supplied _ v all = absurd all.0

same_either_way : {A : Type 0} (b : Bool) (x : A) → (if b then x else x) ≡ x
same_either_way true x = refl
same_either_way false x = refl

unsupplied : (marks : List NodeMark) (v : ℕ) → AllByRecursion IsTerminal marks → supply_or marks v (pos 0) ≡ pos 0
unsupplied [] v all = refl
unsupplied (Source id ∷ marks) v all = rw (unsupplied marks v all.1) (same_either_way (id == v) (pos 0))
unsupplied (Sink id ∷ marks) v all = rw (unsupplied marks v all.1) (same_either_way (id == v) (pos 0))
unsupplied _ v all = absurd all.0

by_side : (marks : List NodeMark) (v : ℕ) → AllByRecursion IsSide marks → supply_or marks v (neg_ℤ (pos 1)) ≡ (if is_named v marks then pos 1 else neg_ℤ (pos 1))
by_side [] v all = refl
by_side (Side id ∷ marks) v all = rw (by_side marks v all.1) (by (id == v))
  where
    by : (b : Bool) → (if b then pos 1 else (if is_named v marks then pos 1 else neg_ℤ (pos 1))) ≡ (if (b || is_named v marks) then pos 1 else neg_ℤ (pos 1))
    by true = refl
    by false = refl
by_side _ v all = absurd all.0

is_named-by_sign : (b : Bool) → int_lt (pos 0) (if b then pos 1 else neg_ℤ (pos 1)) ≡ b
is_named-by_sign true = refl
is_named-by_sign false = refl

-- the supplies of the reduced instance, as the code makes them
abbrev pub made_supplies : Kind → ℕ → List NodeMark → List ℤ
made_supplies kind nodes marks = by_node nodes (λ v. supply_or marks v (unmarked_supply kind))

-- the marks are those of the kind
abbrev pub AreOfKind : Kind → List NodeMark → Type 0
AreOfKind Min marks = AllByRecursion IsSupply marks
AreOfKind Max marks = AllByRecursion IsTerminal marks
AreOfKind Asn marks = AllByRecursion IsSide marks

pub demand_is : (kind : Kind) (nodes : ℕ) (marks : List NodeMark) → AreOfKind kind marks → demand_by (goal_of kind marks) (made_supplies kind nodes marks) ≡ demand_of kind nodes marks
demand_is Min nodes marks all = ap Supplies (map-same _ _ (λ v. supplied marks v all) (range_with_len 1 nodes))
demand_is Max nodes marks all = refl
demand_is Asn nodes marks all = ap Sides (
    map-map (int_lt (pos 0)) (λ v. supply_or marks v (neg_ℤ (pos 1))) (range_with_len 1 nodes)
    ∙ map-same (λ v. int_lt (pos 0) (supply_or marks v (neg_ℤ (pos 1)))) (λ v. is_named v marks) (λ v. rw (by_side marks v all) (is_named-by_sign (is_named v marks))) (range_with_len 1 nodes))

pub supply_is : (kind : Kind) (nodes : ℕ) (marks : List NodeMark) (v : ℕ) → AreOfKind kind marks → 1 ≤ v → v ≤ nodes → at_node (made_supplies kind nodes marks) v ≡ reduced_supply (demand_of kind nodes marks) v
supply_is Min nodes marks v all least most = at-by_node nodes _ v (pos 0) least most ∙ supplied marks v all ∙ sym (at-by_node nodes (supply_at marks) v (pos 0) least most)
supply_is Max nodes marks v all least most = at-by_node nodes _ v (pos 0) least most ∙ unsupplied marks v all
supply_is Asn nodes marks v all least most =
    at-by_node nodes _ v (pos 0) least most ∙ by_side marks v all ∙ ap (λ (b : Bool). if b then pos 1 else neg_ℤ (pos 1)) (sym (at-by_node nodes (λ u. is_named u marks) v false least most))

-- ---- what is within the limits

pub all-by_node : {A : Type 0} (P : A → Type 0) (n : ℕ) (f : ℕ → A) → ((v : ℕ) → P (f v)) → All P (by_node n f)
all-by_node P n f each k d below =
    let count = length-map-range_with_len f 1 n in
    rw (get_or-map-range_with_len f 1 n k (k + 1) d (omega arith) (omega arith)) (each (k + 1))

marked-within : (mark : NodeMark) → HasLawfulSupply mark → IsWithin SUPPLY_LIMIT (marked_supply mark)
marked-within (Supply id value) within = within
marked-within _ within = (omega (arith, ints), omega (arith, ints))

either : (b : Bool) (x y : ℤ) → IsWithin SUPPLY_LIMIT x → IsWithin SUPPLY_LIMIT y → IsWithin SUPPLY_LIMIT (if b then x else y)
either true x y within other = within
either false x y within other = other

pub supply_or-within : (nodes : ℕ) (marks : List NodeMark) (v : ℕ) (none : ℤ) → AllByRecursion (IsLawfulMark nodes) marks → IsWithin SUPPLY_LIMIT none → IsWithin SUPPLY_LIMIT (supply_or marks v none)
supply_or-within nodes [] v none lawful within = within
supply_or-within nodes (mark ∷ marks) v none lawful within =
    either (node_of mark == v) _ _ (marked-within mark lawful.0.supply) (supply_or-within nodes marks v none lawful.1 within)

unmarked-within : (kind : Kind) → IsWithin SUPPLY_LIMIT (unmarked_supply kind)
unmarked-within Min = (omega (arith, ints), omega (arith, ints))
unmarked-within _ = (omega (arith, ints), omega (arith, ints))

pub made-within : (kind : Kind) (nodes : ℕ) (marks : List NodeMark) → AllByRecursion (IsLawfulMark nodes) marks → All (IsWithin SUPPLY_LIMIT) (made_supplies kind nodes marks)
made-within kind nodes marks lawful = all-by_node (IsWithin SUPPLY_LIMIT) nodes _ (λ v. supply_or-within nodes marks v (unmarked_supply kind) lawful (unmarked-within kind))

-- ---- the first instance

of_kind : (kind : Kind) (nodes : ℕ) (marks : List NodeMark) (rows : List ArcRow) → IsProblem kind nodes marks rows → AreOfKind kind marks
of_kind Min nodes marks rows is = recursion_from_All IsSupply marks is.by_kind
of_kind Max nodes marks rows is = recursion_from_All IsTerminal marks is.by_kind.terminals
of_kind Asn nodes marks rows is = recursion_from_All IsSide marks is.by_kind.sides

demand_fits : (kind : Kind) (nodes : ℕ) (marks : List NodeMark) (rows : List ArcRow) → IsProblem kind nodes marks rows → DemandFits nodes (demand_of kind nodes marks)
demand_fits Min nodes marks rows is =
    let marks_lawful = recursion_from_All (IsLawfulMark nodes) marks is.lawful.each_mark in (
      length-map-range_with_len (supply_at marks) 1 nodes,
      all-by_node (IsWithin SUPPLY_LIMIT) nodes (supply_at marks) (λ v.
          rw (sym (supplied marks v (recursion_from_All IsSupply marks is.by_kind))) (supply_or-within nodes marks v (pos 0) marks_lawful (unmarked-within Min))),
    )
demand_fits Max nodes marks rows is = (is.by_kind.source, is.by_kind.sink, is.by_kind.different)
demand_fits Asn nodes marks rows is = length-map-range_with_len (λ v. is_named v marks) 1 nodes

row_fits : (kind : Kind) (nodes : ℕ) (marks : List NodeMark) (rows : List ArcRow) → IsProblem kind nodes marks rows → (k : ℕ) (d : ArcRow) → k < length rows → ArcFits (demand_of kind nodes marks) (get_or rows k d)
row_fits Min nodes marks rows is k d below = tt
row_fits Max nodes marks rows is k d below = is.by_kind.rows_fit k d below
row_fits Asn nodes marks rows is k d below =
    let fits = is.by_kind.rows_fit k d below in
    let row = is.lawful.each_row k d below in
    let named = λ (v : ℕ). is_named v marks in (
      fits.0,
      inr fits.1,
      at-by_node nodes named _ false row.tail.0 row.tail.1 ∙ fits.2,
      at-by_node nodes named _ false row.head.0 row.head.1 ∙ fits.3,
    )

pub first_lawful : (problem : ProblemValue) (extra : ℕ) → IsProblem problem.kind problem.nodes problem.marks problem.arcs → IsLawful (first problem extra)
first_lawful problem extra is = record {
  nodes = (is.some_node, is.node_limit);
  demand = demand_fits problem.kind problem.nodes problem.marks problem.arcs is;
  arcs = λ k d below. (is.lawful.each_row k d below, row_fits problem.kind problem.nodes problem.marks problem.arcs is k d below);
  count = let few = is.arc_limit in omega arith;
  room = omega arith;
}

-- ---- what a problem's network begins with

abbrev pub made : ProblemValue → List ℤ
made problem = made_supplies problem.kind problem.nodes problem.marks

pub made-length : (problem : ProblemValue) → length (made problem) ≡ problem.nodes
made-length problem = length-map-range_with_len _ 1 problem.nodes

pub instance_is : (problem : ProblemValue) (extra : ℕ) → IsProblem problem.kind problem.nodes problem.marks problem.arcs
    → instance_of (length (made problem)) (goal_of problem.kind problem.marks) (made problem) problem.arcs (first problem extra).room ≡ first problem extra
instance_is problem extra is =
    rw (made-length problem, demand_is problem.kind problem.nodes problem.marks (of_kind problem.kind problem.nodes problem.marks problem.arcs is)) refl

pub is_start : (problem : ProblemValue) (extra : ℕ) → IsProblem problem.kind problem.nodes problem.marks problem.arcs
    → CanBegin (goal_of problem.kind problem.marks) (made problem) problem.arcs (first problem extra).room
is_start problem extra is =
    let all = of_kind problem.kind problem.nodes problem.marks problem.arcs is in
    record {
      lawful = rw (instance_is problem extra is) (first_lawful problem extra is);
      supply_is = λ v least most.
          rw (demand_is problem.kind problem.nodes problem.marks all) (supply_is problem.kind problem.nodes problem.marks v all least (let len = made-length problem in omega arith));
      small = made-within problem.kind problem.nodes problem.marks (recursion_from_All (IsLawfulMark problem.nodes) problem.marks is.lawful.each_mark);
    }
