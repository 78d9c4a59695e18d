-- Labels that are held stay so, and are tested again where something changed.
use Rattle.std.proofs.Common.{◌≡◌, ℕ, ◌+◌, ◌/◌, ◌<◌, ◌≤◌, ℤ, pos, List, Bool, true, false, length, refl, sym, ap, subst, ◌∙◌, inl, inr, arith, Some, None, eqb}
use Rattle.std.specs.Option.{option_eq}
use Rattle.std.specs.Prelude.{◌⊎◌, ◌<ℤ◌, Any, Option}
use Rattle.std.proofs.lemmas.Int.{ints}
use Rattle.std.proofs.lemmas.Bool.{cases_eq, cases_lt, eqb-true, false≢true, true≢false}
use Rattle.std.proofs.lemmas.List.{get_or_past}
use Rattle.dimacs_text.specs.declared.problem.ArcRow.{ArcRow}
use Rattle.residual_graph.specs.declared.residual.Way.{Way}
use Rattle.residual_graph.specs.declared.residual.Way.TheVariants.{Forward, Backward}
use Rattle.network.specs.Flow.{reduced_cost}
use Rattle.residual_graph.specs.Residual.{IsPseudoflow, end_at, end_of, number_at, room_of, row_at, start_at, start_of}
use Rattle.residual_graph.proofs.RowLemmas.{start_of-in}
use Rattle.residual_graph.specs.Walk.{end_way}
use Rattle.predecessors.specs.declared.predecessor.Predecessor.{Predecessor}
use Rattle.shortest_paths.specs.Tree.{AreArcsNoted, IsArcNoted, TreeView}
use Rattle.tracked.specs.Touched.{NameChanges}
use Rattle.predecessors.specs.Predecessor.{ComesAlong, IsTracedAt, arc_to, predecessor_at, rank_at, row_along, way_to}
use Rattle.augmentation.specs.Certificate.{AreInRange, KeepsRow}
use Rattle.tracked.specs.Marks.{in_set}
use Rattle.augmentation.specs.Held.{AreTested, AreMarkedChanges, AreNotedChanges, AreTestedThere, HoldsAlong, HoldsAt, AreHeld, IsHeldIn, IsInLabelRange}
use Rattle.augmentation.specs.Settle.{AreShortest}
use Rattle.augmentation.proofs.CertificateLemmas.{none_of, rows_of, within_potentials}
use Rattle.predecessors.proofs.LabelLemmas.{greatest_of}
use Rattle.tracked.specs.NodeLists.{node_at}
use Rattle.tracked.proofs.JournalLemmas.{named_at}
use Rattle.tracked.proofs.TouchedLemmas.{noted_or_not}

-- ---- loops over places

-- what holds at each place of a list holds at one that is named there
pub at_named : (places : List ℕ) (P : ℕ → Type 0) → ((j : ℕ) → j < length places → P (node_at places j)) → (k : ℕ) → Any (λ p. p ≡ k) places → P k
at_named places P each k there = (let at = named_at places k there in subst P at.is_there (each at.place at.in_list))

-- what holds at the first places holds at one more
pub at_one_more : (places : List ℕ) (P : ℕ → Type 0) (i : ℕ) → ((j : ℕ) → j < i → P (node_at places j)) → P (node_at places i) → (j : ℕ) → j < i + 1 → P (node_at places j)
at_one_more places P i before here j lt = elim (cases_eq j i) [
  | inl same ↦ subst (λ (h : ℕ). P (node_at places h)) (sym same) here
  | inr ne ↦ before j (omega (arith, lt, ne))
]

-- a guess that is compared with an end is that end
pub guessed : (current : Option ℕ) (guess : ℕ) → option_eq eqb current (Some guess) ≡ true → current ≡ Some guess
guessed None guess e = absurd (false≢true e)
guessed (Some end) guess e = ap Some (eqb-true end guess e)

-- ---- arcs and nodes that stay as they are

-- an arc is certified by labels that are the same at its ends
same_labels : (a : ArcRow) (x : ℤ) (p q : List ℤ) → number_at q a.tail ≡ number_at p a.tail → number_at q a.head ≡ number_at p a.head → KeepsRow a x p → KeepsRow a x q
same_labels a x p q tail head keeps = (
  λ room. (let before = keeps.0 room in omega (arith, ints, before, tail, head)),
  λ room. (let before = keeps.1 room in omega (arith, ints, before, tail, head)),
)

-- how a node is come to: by its predecessor, by the labels at the two ends and by the ranks there
comes_still : (a : ArcRow) (x y : ℤ) (p q : List ℤ) (s t : List Predecessor) (v : ℕ) → y ≡ x → predecessor_at t v ≡ predecessor_at s v → number_at q v ≡ number_at p v
    → number_at q (start_of a (way_to s v)) ≡ number_at p (start_of a (way_to s v)) → predecessor_at t (start_of a (way_to s v)) ≡ predecessor_at s (start_of a (way_to s v)) → ComesAlong a x p s v → ComesAlong a y q t v
comes_still a x y p q s t v flow same label start before comes =
    let way : way_to s v ≡ way_to t v = ap (λ (r : Predecessor). end_way r.end) (sym same) in
    let end_label : number_at q (end_of a (way_to s v)) ≡ number_at p (end_of a (way_to s v)) = subst (λ (u : ℕ). number_at q u ≡ number_at p u) (sym comes.ends) label in
    let rank : rank_at t v ≡ rank_at s v = ap (λ (r : Predecessor). r.rank) same in
    let rank_before : rank_at t (start_of a (way_to s v)) ≡ rank_at s (start_of a (way_to s v)) = ap (λ (r : Predecessor). r.rank) before in
    record {
      has_room = subst (λ (w : Way). pos 0 <ℤ room_of a y w) way (subst (λ (z : ℤ). pos 0 <ℤ room_of a z (way_to s v)) (sym flow) comes.has_room);
      ends = subst (λ (w : Way). end_of a w ≡ v) way comes.ends;
      lower = subst (λ (w : Way). rank_at t (start_of a w) < rank_at t v) way (omega (arith, comes.lower, rank, rank_before));
      tight = subst (λ (w : Way). reduced_cost (number_at q) (row_along a w) ≡ pos 0) way (omega (arith, ints, comes.tight, start, end_label));
    }

-- ---- what changed, and what is tested

module _ (nodes : ℕ) (rows : List ArcRow) (w x p q : List ℤ) (s t : List Predecessor) (noted beside written touched : List Bool)
    (is_flow : IsPseudoflow nodes rows x) (sized : length q ≡ nodes)
    (held : AreHeld rows w p s noted beside) (moved : AreMarkedChanges rows w x p q s t written touched) (in_range : AreInRange q) (tested : AreTestedThere rows x q t noted beside written touched) where
  start_in : (k : ℕ) (way : Way) → k < length rows → start_at rows k way < length q
  start_in k way lt = (let r = start_of-in nodes (row_at rows k) way (is_flow.rows k lt) in omega (arith, r, sized))

  keeps : (k : ℕ) → k < length rows → KeepsRow (row_at rows k) (number_at x k) q
  keeps k lt = elim (noted_or_not noted k) [
    | inl is ↦ (tested.noted_hold k lt is).keeps
    | inr out ↦ elim (noted_or_not written k) [
      | inl is ↦ (tested.written_hold k lt is).keeps
      | inr still ↦ elim (noted_or_not touched (row_at rows k).tail) [
        | inl is ↦ ((tested.touched_hold (row_at rows k).tail (start_in k Forward lt) is).along k Forward lt refl).keeps
        | inr tail ↦ elim (noted_or_not touched (row_at rows k).head) [
          | inl is ↦ ((tested.touched_hold (row_at rows k).head (start_in k Backward lt) is).along k Backward lt refl).keeps
          | inr head ↦ subst (λ (z : ℤ). KeepsRow (row_at rows k) z q) (sym (moved.flow k still)) (same_labels (row_at rows k) (number_at w k) p q (moved.labels (row_at rows k).tail tail) (moved.labels (row_at rows k).head head) (held.arcs k lt out))
        ]
      ]
    ]
  ]

  -- a node that hangs as before on an arc along which all holds
  by_arc : (v : ℕ) → predecessor_at t v ≡ predecessor_at s v → end_at rows (arc_to s v) (way_to s v) ≡ v → HoldsAlong rows x q t (arc_to s v) → IsTracedAt rows x q t v
  by_arc v same ends hold = subst (IsTracedAt rows x q t) ends (hold.hanging (way_to s v) (ap (arc_to t) ends ∙ ap (λ (r : Predecessor). r.end / 2) same))

  -- a node that was traced, and hangs as before at the same label
  traced_still : (v : ℕ) → number_at q v ≡ number_at p v → predecessor_at t v ≡ predecessor_at s v → IsTracedAt rows w p s v → IsTracedAt rows x q t v
  traced_still v label same before = elim before [
    | inl flat ↦ inl (label ∙ flat)
    | inr along ↦
        (let k = arc_to s v in
        let way = way_to s v in
        let u = start_of (row_at rows k) way in
        let by_start : HoldsAt rows x q t u → IsTracedAt rows x q t v = λ hold. by_arc v same along.1.ends (hold.along k way along.0 refl) in
        elim (noted_or_not written k) [
          | inl is ↦ by_arc v same along.1.ends (tested.written_hold k along.0 is)
          | inr still ↦ elim (noted_or_not touched u) [
            | inl is ↦ by_start (tested.touched_hold u (start_in k way along.0) is)
            | inr out ↦ inr (subst (λ (j : ℕ). (j < length rows) × ComesAlong (row_at rows j) (number_at x j) q t v) (sym (ap (λ (r : Predecessor). r.end / 2) same))
                (along.0, comes_still (row_at rows k) (number_at w k) (number_at x k) p q s t v (moved.flow k still) same label (moved.labels u out) (moved.predecessors u out) along.1))
          ]
        ])
  ]

  traced : (v : ℕ) → v < length q → IsTracedAt rows x q t v
  traced v lt = elim (noted_or_not beside v) [
    | inl is ↦ tested.beside_traced v lt is
    | inr out ↦ elim (noted_or_not touched v) [
      | inl is ↦ (tested.touched_hold v lt is).traced
      | inr same ↦ traced_still v (moved.labels v same) (moved.predecessors v same) (held.nodes v (omega (arith, lt, moved.sized)) out)
    ]
  ]

  -- labels that were held, and were tested where anything changed, are tested
  pub tested_whole : AreTested rows x q t
  tested_whole = record { certifying = (in_range, none_of rows x q keeps); traced = traced }

-- labels that were in range are so, where those are that changed
pub in_range_still : (p q : List ℤ) (touched : List Bool) → AreInRange p → ((v : ℕ) → in_set touched v ≡ false → number_at q v ≡ number_at p v) → ((v : ℕ) → v < length q → in_set touched v ≡ true → IsInLabelRange (number_at q v)) → AreInRange q
in_range_still p q touched before same inside = record {
  sized = refl;
  at_most_0 = λ v. (each v).1;
  at_least = λ v. (each v).0;
}
  where
    each : (v : ℕ) → IsInLabelRange (number_at q v)
    each v = elim (cases_lt v (length q)) [
      | inr past ↦ (let none = get_or_past q v (pos 0) past in (omega (arith, ints, none), omega (arith, ints, none)))
      | inl lt ↦ elim (noted_or_not touched v) [
        | inl is ↦ inside v lt is
        | inr out ↦ (let label = same v out in (omega (arith, ints, label, before.at_least v), omega (arith, ints, label, before.at_most_0 v)))
      ]
    ]

-- ---- what is held

-- labels that are tested are the greatest potentials that certify the flow
pub shortest_of : (nodes : ℕ) (rows : List ArcRow) (x q : List ℤ) (t : List Predecessor) → IsPseudoflow nodes rows x → length q ≡ nodes → AreTested rows x q t → AreShortest rows x q
shortest_of nodes rows x q t is_flow sized tested = record {
  certified = record {
    flow = subst (λ (n : ℕ). IsPseudoflow n rows x) (sym sized) is_flow;
    potentials = within_potentials (length q) q tested.certifying.0;
    none_below = tested.certifying.1;
  };
  within = tested.certifying.0;
  greatest = greatest_of rows x q t tested.traced;
}

-- arc k is noted, and its ends are beside
abbrev pub IsNoted : List ArcRow → List Bool → List Bool → ℕ → Type 0
IsNoted rows noted beside k = (in_set noted k ≡ true) × ((way : Way) → in_set beside (end_at rows k way) ≡ true)

-- what is tested under the flow x is held under another one, where the arcs on which these differ are noted
pub held_accepted : (rows : List ArcRow) (w x q : List ℤ) (t : List Predecessor) (noted beside : List Bool) → AreTested rows x q t
    → ((k : ℕ) → k < length rows → IsNoted rows noted beside k ⊎ (number_at w k ≡ number_at x k)) → AreHeld rows w q t noted beside
held_accepted rows w x q t noted beside tested differ = record {
  in_range = tested.certifying.0;
  arcs = λ k lt out. elim (differ k lt) [
    | inl is ↦ absurd (true≢false (sym is.0 ∙ out))
    | inr same ↦ subst (λ (z : ℤ). KeepsRow (row_at rows k) z q) (sym same) (rows_of rows x q tested.certifying.1 k lt)
  ];
  nodes = λ v lt out. elim (tested.traced v lt) [
    | inl flat ↦ inl flat
    | inr along ↦ elim (differ (arc_to t v) along.0) [
      | inl is ↦ absurd (true≢false (sym (subst (λ (u : ℕ). in_set beside u ≡ true) along.1.ends (is.1 (way_to t v))) ∙ out))
      | inr same ↦ inr (along.0, subst (λ (z : ℤ). ComesAlong (row_at rows (arc_to t v)) z q t v) (sym same) along.1)
    ]
  ];
}

not_noted : (noted noted' : List Bool) (k : ℕ) → ((j : ℕ) → in_set noted j ≡ true → in_set noted' j ≡ true) → in_set noted' k ≡ false → in_set noted k ≡ false
not_noted noted noted' k still out = elim (noted_or_not noted k) [
  | inl is ↦ absurd (true≢false (sym (still k is) ∙ out))
  | inr free ↦ free
]

-- what is held is so still once rows and flow changed at noted arcs alone
pub held_after : (rows : List ArcRow) (w : List ℤ) (rows' : List ArcRow) (w' q : List ℤ) (t : List Predecessor) (noted beside noted' beside' : List Bool) → AreHeld rows w q t noted beside
    → AreNotedChanges rows w noted beside rows' w' noted' beside' → AreHeld rows' w' q t noted' beside'
held_after rows w rows' w' q t noted beside noted' beside' held change = record {
  in_range = held.in_range;
  arcs = λ k lt out. elim (change.arcs k lt) [
    | inl is ↦ absurd (true≢false (sym is ∙ out))
    | inr same ↦ subst (λ (a : ArcRow). KeepsRow a (number_at w' k) q) (sym same.row) (subst (λ (z : ℤ). KeepsRow (row_at rows k) z q) (sym same.flow) (held.arcs k same.in_both.0 (not_noted noted noted' k change.still_noted out)))
  ];
  nodes = λ v lt out. elim (held.nodes v lt (not_noted beside beside' v change.still_beside out)) [
    | inl flat ↦ inl flat
    | inr along ↦ elim (change.ends (arc_to t v) along.0) [
      | inl ends ↦ absurd (true≢false (sym (subst (λ (u : ℕ). in_set beside' u ≡ true) along.1.ends (ends (way_to t v))) ∙ out))
      | inr same ↦ inr (same.in_both.1, subst (λ (a : ArcRow). ComesAlong a (number_at w' (arc_to t v)) q t v) (sym same.row) (subst (λ (z : ℤ). ComesAlong (row_at rows (arc_to t v)) z q t v) (sym same.flow) along.1))
    ]
  ];
}

-- an arc that a tree notes
pub noted_arc : (rows : List ArcRow) (h : TreeView) (k : ℕ) → IsArcNoted rows h k → IsNoted rows h.noted h.beside k
noted_arc rows h k is = (is.arc, ends)
  where
    ends : (way : Way) → in_set h.beside (end_at rows k way) ≡ true
    ends Forward = is.head
    ends Backward = is.tail

-- what was tested and accepted is held, under the flow from which this one differs at named arcs
pub held_by : (rows : List ArcRow) (w x q : List ℤ) (t : List Predecessor) (places : List ℕ) (h : TreeView) → length rows ≤ length w → h.labels ≡ q → h.predecessors ≡ t → NameChanges 0 places w x → AreArcsNoted rows places h → AreTested rows x q t → IsHeldIn rows w h
held_by rows w x q t places h fits labels predecessors named noted tested = λ found.
    subst (λ (p : List ℤ). AreHeld rows w p h.predecessors h.noted h.beside) (sym labels)
    (subst (λ (s : List Predecessor). AreHeld rows w q s h.noted h.beside) (sym predecessors)
    (held_accepted rows w x q t h.noted h.beside tested (λ k lt. elim (named k (omega (arith, lt, fits))) [
      | inl there ↦ inl (noted_arc rows h k (noted found k lt (subst (λ (j : ℕ). Any (λ p. p ≡ j) places) (omega arith) there)))
      | inr same ↦ inr (sym (same (pos 0)))
    ])))
