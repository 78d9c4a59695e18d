-- The walk over the network's lists of the ends at a node comes to each arc there.
use Rattle.std.proofs.Common.{◌≡◌, ℕ, zero, suc, inl, inr, ◌+◌, ◌-◌, ◌*◌, ◌/◌, ◌<◌, ◌≤◌, Bool, List, length, sym, ap, subst, ◌∙◌, arith, cond, Some, None}
use Rattle.std.specs.Prelude.{IfSome, Option, SomeIff}
use Rattle.std.proofs.lemmas.Bool.{cases_eq, cases_lt, eq-eqb, ne_eqb}
use Rattle.dimacs_text.specs.declared.problem.ArcRow.{ArcRow}
use Rattle.network.specs.Ends.{end_node, last_end_below}
use Rattle.network.specs.Flow.{IsNode}
use Rattle.network.specs.Instance.{Demand, Supplies, Terminals, Sides, Instance, IsLawful, reduced, reduced_arcs}
use Rattle.network.proofs.EndLemmas.{end_node-tail, end_node-head}
use Rattle.network.proofs.Rows.{rows_counted}
pub use Rattle.network.proofs.Rows.{rows_push}
use Rattle.residual_graph.specs.declared.residual.Way.{Way}
use Rattle.residual_graph.specs.declared.residual.Way.TheVariants.{Backward, Forward}
use Rattle.residual_graph.specs.Graph.{AreRowsOf, GraphView}
use Rattle.residual_graph.specs.Limits.{row_limit}
use Rattle.residual_graph.specs.Residual.{row_at, start_at, start_of}
use Rattle.residual_graph.specs.Walk.{HasCome, IsNextEnd, IsPassed, StandsAt, end_number, ends_before}
use Rattle.residual_graph.proofs.NodeNumbers.{IsNodeOf, is_node_or_not}

-- ---- the network's lists

-- a residual arc along an arc of the network leaves the node of its end
end_there : (arcs : List ArcRow) (j : ℕ) (way : Way) → j < length arcs → end_node arcs (end_number j way) ≡ start_at arcs j way
end_there arcs j Forward lt = end_node-tail arcs j lt
end_there arcs j Backward lt = (let next : 2 * j + 1 ≡ suc (2 * j) = omega arith in ap (end_node arcs) next ∙ end_node-head arcs j lt)

node_there : (I : Instance) (j : ℕ) (way : Way) → IsLawful I → j < length I.arcs → IsNodeOf I.nodes (start_at I.arcs j way)
node_there I j Forward lawful lt = (lawful.arcs j _ lt).0.tail
node_there I j Backward lawful lt = (lawful.arcs j _ lt).0.head

-- the greatest end below n at node v, in the network's numbers
pub record IsNextBelow (arcs : List ArcRow) (v n : ℕ) (next : Option ℕ) : Type 0 where
  pub found : IfSome next (λ end. (end < n) × (end_node arcs end ≡ v))
  pub all : (j : ℕ) (way : Way) → j < length arcs → start_at arcs j way ≡ v → end_number j way < n → IsPassed next (end_number j way) → ⊥

pub next_below : (arcs : List ArcRow) (v n : ℕ) → IsNextBelow arcs v n (last_end_below arcs v n)
next_below arcs v zero = record { found = tt; all = λ j way lt here in_n passed. omega arith }
next_below arcs v (suc n) = elim (cases_eq (end_node arcs n) v) [
  | inl here ↦ (let test : last_end_below arcs v (suc n) ≡ Some n = ap (λ (b : Bool). cond b (Some n) (last_end_below arcs v n)) (eq-eqb (end_node arcs n) v here) in
      subst (IsNextBelow arcs v (suc n)) (sym test) (record { found = (omega arith, here); all = λ j way lt at in_n passed. omega arith }))
  | inr other ↦ (let test : last_end_below arcs v (suc n) ≡ last_end_below arcs v n = ap (λ (b : Bool). cond b (Some n) (last_end_below arcs v n)) (ne_eqb (end_node arcs n) v other) in
      let before = next_below arcs v n in
      subst (IsNextBelow arcs v (suc n)) (sym test) (record {
        found = less (last_end_below arcs v n) before.found;
        all = λ j way lt here in_n passed. elim (cases_lt (end_number j way) n) [
          | inl below ↦ before.all j way lt here below passed
          | inr past ↦ (let same : end_number j way ≡ n = omega arith in other (ap (end_node arcs) (sym same) ∙ end_there arcs j way lt ∙ here))
        ];
      }))
]
  where
    less : (next : Option ℕ) → IfSome next (λ end. (end < n) × (end_node arcs end ≡ v)) → IfSome next (λ end. (end < suc n) × (end_node arcs end ≡ v))
    less None found = tt
    less (Some end) found = (omega (arith, found.0), found.1)

pub first_below : (I : Instance) (v : ℕ) (first : Option ℕ) → IsLawful I → (IsNode (reduced I) v → first ≡ last_end_below I.arcs v (2 * length I.arcs)) → ((IsNode (reduced I) v → ⊥) → first ≡ None) → IsNextBelow I.arcs v (2 * length I.arcs) first
first_below I v first lawful node no_node = elim (is_node_or_not I.nodes v) [
  | inl is ↦ subst (IsNextBelow I.arcs v (2 * length I.arcs)) (sym (node is)) (next_below I.arcs v (2 * length I.arcs))
  | inr none ↦ subst (IsNextBelow I.arcs v (2 * length I.arcs)) (sym (no_node none))
      (record { found = tt; all = λ j way lt here in_n passed. none (subst (IsNodeOf I.nodes) here (node_there I j way lawful lt)) })
]

-- ---- the rows

-- so many rows stand before that of the first arc: one at most
pub rows_split : (D : Demand) (arcs : List ArcRow) (row : ℕ) → row + length arcs ≡ length (reduced_arcs D arcs) → (row ≤ 1) × ((j : ℕ) → row_at (reduced_arcs D arcs) (j + row) ≡ row_at arcs j)
rows_split (Supplies s) arcs row e = (omega arith, λ j. (let none : j + row ≡ j = omega arith in ap (row_at arcs) none))
rows_split (Terminals source sink) arcs row e = (omega arith, λ j. (let one : j + row ≡ suc j = omega arith in ap (row_at (reduced_arcs (Terminals source sink) arcs)) one))
rows_split (Sides marks) arcs row e = (omega arith, λ j. (let none : j + row ≡ j = omega arith in ap (row_at arcs) none))

-- ---- the walk

pub end_in : (k n : ℕ) (way : Way) → k < n → end_number k way < 2 * n
end_in k n Forward lt = omega arith
end_in k n Backward lt = omega arith

module _ (g : GraphView) (is : AreRowsOf g.net g.rows) where
  abbrev row : ℕ
  row = length g.rows - length g.net.arcs

  pub split : row + length g.net.arcs ≡ length g.rows
  split = omega (arith, rows_counted g.net.demand g.net.arcs, ap (λ (r : List ArcRow). length r) is.rows_are)

  split_is : (row ≤ 1) × ((j : ℕ) → row_at (reduced g.net).arcs (j + row) ≡ row_at g.net.arcs j)
  split_is = rows_split g.net.demand g.net.arcs row (split ∙ ap (λ (r : List ArcRow). length r) is.rows_are)

  pub few_rows : length g.rows ≤ row_limit
  few_rows = omega (arith, split_is.0, split, is.lawful.count, is.lawful.room)

  -- a row of the network is that of its arc
  same_start : (k : ℕ) (way : Way) → row ≤ k → start_at g.rows k way ≡ start_at g.net.arcs (k - row) way
  same_start k way le =
      (let same : k ≡ (k - row) + row = omega (arith, le) in
      ap (λ (i : ℕ). start_at g.rows i way) same ∙ ap (λ (r : List ArcRow). start_at r ((k - row) + row) way) is.rows_are ∙ ap (λ (a : ArcRow). start_of a way) (split_is.1 (k - row)))

  same_end : (k : ℕ) (way : Way) → row ≤ k → end_number k way ≡ end_number (k - row) way + ends_before g
  same_end k Forward le = omega (arith, le)
  same_end k Backward le = omega (arith, le)

  -- no end is left out: none of the network's list, and none of the return arc
  none_out : (v n : ℕ) (listed next : Option ℕ) → IsNextBelow g.net.arcs v n listed → ((end : ℕ) → IsPassed next (end + ends_before g) → IsPassed listed end)
      → ((k : ℕ) (way : Way) → k < row → IsPassed next (end_number k way) → ⊥) → (k : ℕ) (way : Way) → k < length g.rows → start_at g.rows k way ≡ v → end_number k way < n + ends_before g → IsPassed next (end_number k way) → ⊥
  none_out v n listed next below later return k way lt here in_n passed = elim (cases_lt k row) [
    | inl first ↦ return k way first passed
    | inr le ↦ below.all (k - row) way (omega (arith, le, lt, split)) (sym (same_start k way le) ∙ here) (omega (arith, same_end k way le, in_n))
        (later (end_number (k - row) way) (subst (IsPassed next) (same_end k way le) passed))
  ]

  -- the walk goes on by an end of the network's list
  pub goes_on_listed : (v n end : ℕ) → IsNextBelow g.net.arcs v n (Some end) → IsNextEnd g v (n + ends_before g) (Some (end + ends_before g))
  goes_on_listed v n end below = record {
    stands = (omega (arith, below.found.0), λ le. (let same : (end + ends_before g) - ends_before g ≡ end = omega arith in ap (end_node g.net.arcs) same ∙ below.found.1));
    all = none_out v n (Some end) (Some (end + ends_before g)) below (λ e passed. omega (arith, passed)) (λ k way lt passed. omega (arith, end_in k row way lt, passed));
  }

  -- it goes on by the last end of the return arc, where there is one
  pub goes_on_return : (v n : ℕ) (next : Option ℕ) → IsNextBelow g.net.arcs v n None → SomeIff next (1 ≤ ends_before g) (ends_before g - 1) → IsNextEnd g v (n + ends_before g) next
  goes_on_return v n None below none = record { stands = tt; all = none_out v n None None below (λ e passed. tt) (λ k way lt passed. none (omega (arith, lt))) }
  goes_on_return v n (Some last) below some = record {
    stands = (omega (arith, some.0, some.1), λ le. absurd (omega (arith, le, some.0, some.1)));
    all = none_out v n None (Some last) below (λ e passed. tt) (λ k way lt passed. omega (arith, end_in k row way lt, passed, some.1));
  }

-- ---- one loop over the walk

pub come_first : (g : GraphView) (v : ℕ) (first : Option ℕ) (P : ℕ → Type 0) → IsNextEnd g v (2 * length g.rows) first → HasCome g v first P
come_first g v first P is = record { stands = is.stands; passed = λ k way lt here passed. absurd (is.all k way lt here (end_in k (length g.rows) way lt) passed) }

pub come_next : (g : GraphView) (v end : ℕ) (next : Option ℕ) (P Q : ℕ → Type 0) → HasCome g v (Some end) P → IsNextEnd g v end next → ((k : ℕ) → P k → Q k) → Q (end / 2) → HasCome g v next Q
come_next g v end next P Q come is kept here = record {
  stands = within next is.stands;
  passed = λ k way lt at passed. elim (cases_lt end (end_number k way)) [
    | inl past ↦ kept k (come.passed k way lt at past)
    | inr up_to ↦ elim (cases_lt (end_number k way) end) [
      | inl below ↦ absurd (is.all k way lt at below passed)
      | inr from ↦ subst Q (arc_of k way (omega (arith, up_to, from))) here
    ]
  ];
}
  where
    within : (o : Option ℕ) → IfSome o (λ e. (e < end) × StandsAt g v e) → IfSome o (λ e. (e < 2 * length g.rows) × StandsAt g v e)
    within None stands = tt
    within (Some e) stands = (omega (arith, stands.0, come.stands.0), stands.1)

    arc_of : (k : ℕ) (way : Way) → end ≡ end_number k way → end / 2 ≡ k
    arc_of k Forward same = omega (arith, same)
    arc_of k Backward same = omega (arith, same)
