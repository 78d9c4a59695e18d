-- Labels that were tested stay held while rows and flows change, where each arc that becomes another is noted.
use Rattle.std.proofs.Common.{◌≡◌, ◌≢◌, ℕ, ◌+◌, ◌<◌, ℤ, List, [], ◌∷◌, ◌++◌, length, take, true, false, refl, sym, ap, subst, ◌∙◌, inl, inr, arith}
use Rattle.std.specs.Prelude.{◌⊎◌, Any, slice_set}
use Rattle.std.proofs.lemmas.Bool.{cases_eq, cases_lt}
use Rattle.std.proofs.lemmas.List.{get_or_append_left, get_or-set_other, get_or-take, length-append, length-set}
use Rattle.dimacs_text.specs.declared.problem.ArcRow.{ArcRow}
use Rattle.residual_graph.specs.declared.residual.Way.{Way}
use Rattle.residual_graph.specs.Residual.{end_at, number_at, row_at}
use Rattle.shortest_paths.specs.Tree.{AreArcsNoted, StaysHeld, TreeView}
use Rattle.tracked.specs.Marks.{in_set}
use Rattle.tracked.specs.Touched.{NameChanges}
use Rattle.augmentation.specs.Held.{IsHeldIn, IsSameArc}
use Rattle.augmentation.proofs.HeldLemmas.{held_after, noted_arc}

-- the labels are held of other rows and another flow, where each arc that is another is noted, and where it led before is beside
held_changed : (rows rows' : List ArcRow) (w w' : List ℤ) (h h' : TreeView) → StaysHeld h h'
    → (h'.is_lost ≡ false → (k : ℕ) → k < length rows' → (in_set h'.noted k ≡ true) ⊎ IsSameArc rows w rows' w' k)
    → (h'.is_lost ≡ false → (k : ℕ) → k < length rows → ((way : Way) → in_set h'.beside (end_at rows k way) ≡ true) ⊎ IsSameArc rows w rows' w' k)
    → IsHeldIn rows w h → IsHeldIn rows' w' h'
held_changed rows rows' w w' h h' stays arcs ends held found =
    rw (stays.labels, stays.predecessors) (held_after rows w rows' w' h.labels h.predecessors h.noted h.beside h'.noted h'.beside (held (stays.lost found))
    (record { still_noted = stays.noted; still_beside = stays.beside; arcs = arcs found; ends = ends found }))

-- more may be noted
pub held_noted : (rows : List ArcRow) (w : List ℤ) (h h' : TreeView) → StaysHeld h h' → IsHeldIn rows w h → IsHeldIn rows w h'
held_noted rows w h h' stays = held_changed rows rows w w h h' stays (λ _ k lt. inr (same k lt)) (λ _ k lt. inr (same k lt))
  where
    same : (k : ℕ) → k < length rows → IsSameArc rows w rows w k
    same k lt = record { in_both = (lt, lt); row = refl; flow = refl }

-- a place of its own names itself
only_place : (p place : ℕ) → p ≡ place → Any (λ q. q ≡ place) (p ∷ [])
only_place p place same = (0, p, omega arith, refl, same)

module _ (rows : List ArcRow) (w : List ℤ) (h h' : TreeView) (stays : StaysHeld h h') (held : IsHeldIn rows w h) where
  -- one arc has another row, and was noted
  pub held_swapped : (rows' : List ArcRow) (place : ℕ) (row : ArcRow) → rows' ≡ slice_set rows place row → AreArcsNoted rows (place ∷ []) h' → IsHeldIn rows' w h'
  held_swapped rows' place row rows_are noted = held_changed rows rows' w w h h' stays
      (λ found k lt. elim (cases_eq k place) [
        | inl here ↦ inl (noted_arc rows h' k (noted found k (omega (arith, lt, many)) (only_place place k (sym here)))).0
        | inr other ↦ inr (same k other lt)
      ])
      (λ found k lt. elim (cases_eq k place) [
        | inl here ↦ inl (noted_arc rows h' k (noted found k lt (only_place place k (sym here)))).1
        | inr other ↦ inr (same k other (omega (arith, lt, many)))
      ]) held
    where
      many : length rows' ≡ length rows
      many = ap (λ (r : List ArcRow). length r) rows_are ∙ length-set rows place row

      same : (k : ℕ) → k ≢ place → k < length rows' → IsSameArc rows w rows' w k
      same k other lt = record { in_both = (omega (arith, lt, many), lt); row = ap (λ (r : List ArcRow). row_at r k) rows_are ∙ get_or-set_other rows place k row _ other; flow = refl }

  -- the flow is another at arcs that were noted
  pub held_kept : (places : List ℕ) (x : List ℤ) → length w ≡ length rows → NameChanges 0 places w x → AreArcsNoted rows places h' → IsHeldIn rows x h'
  held_kept places x as_many named noted = held_changed rows rows w x h h' stays
      (λ found k lt. elim (named k (omega (arith, lt, as_many))) [
        | inl there ↦ inl (noted_arc rows h' k (noted found k lt (at k there))).0
        | inr agree ↦ inr (record { in_both = (lt, lt); row = refl; flow = agree _ })
      ])
      (λ found k lt. elim (named k (omega (arith, lt, as_many))) [
        | inl there ↦ inl (noted_arc rows h' k (noted found k lt (at k there))).1
        | inr agree ↦ inr (record { in_both = (lt, lt); row = refl; flow = agree _ })
      ]) held
    where
      at : (k : ℕ) → Any (λ p. p ≡ k + 0) places → Any (λ p. p ≡ k) places
      at k there = subst (λ (j : ℕ). Any (λ p. p ≡ j) places) (omega arith) there

  -- an arc is more at the end, and was noted there
  pub held_put : (rows' : List ArcRow) (w' : List ℤ) (place : ℕ) (row : ArcRow) (y : ℤ) → rows' ≡ rows ++ row ∷ [] → w' ≡ w ++ y ∷ [] → length w ≡ length rows → place ≡ length rows → AreArcsNoted rows' (place ∷ []) h' → IsHeldIn rows' w' h'
  held_put rows' w' place row y rows_are whole as_many at noted = held_changed rows rows' w w' h h' stays
      (λ found k lt. elim (cases_lt k (length rows)) [
        | inl before ↦ inr (same k before)
        | inr last ↦ inl (noted found k lt (only_place place k (omega (arith, last, lt, many, at)))).arc
      ])
      (λ found k lt. inr (same k lt)) held
    where
      many : length rows' ≡ length rows + 1
      many = ap (λ (r : List ArcRow). length r) rows_are ∙ length-append rows (row ∷ [])

      same : (k : ℕ) → k < length rows → IsSameArc rows w rows' w' k
      same k lt = record {
        in_both = (lt, omega (arith, lt, many));
        row = ap (λ (r : List ArcRow). row_at r k) rows_are ∙ get_or_append_left rows (row ∷ []) _ k lt;
        flow = ap (λ (z : List ℤ). number_at z k) whole ∙ get_or_append_left w (y ∷ []) _ k (omega (arith, lt, as_many));
      }

  -- the last arc is taken off, and was noted
  pub held_dropped : (rows' : List ArcRow) (w' : List ℤ) (place : ℕ) (row : ArcRow) → rows ≡ rows' ++ row ∷ [] → w' ≡ take (length rows') w → place ≡ length rows' → AreArcsNoted rows (place ∷ []) h' → IsHeldIn rows' w' h'
  held_dropped rows' w' place row rows_are whole at noted = held_changed rows rows' w w' h h' stays
      (λ found k lt. inr (same k lt))
      (λ found k lt. elim (cases_lt k (length rows')) [
        | inl before ↦ inr (same k before)
        | inr last ↦ inl (noted_arc rows h' k (noted found k lt (only_place place k (omega (arith, last, lt, many, at))))).1
      ]) held
    where
      many : length rows ≡ length rows' + 1
      many = ap (λ (r : List ArcRow). length r) rows_are ∙ length-append rows' (row ∷ [])

      same : (k : ℕ) → k < length rows' → IsSameArc rows w rows' w' k
      same k lt = record {
        in_both = (omega (arith, lt, many), lt);
        row = sym (ap (λ (r : List ArcRow). row_at r k) rows_are ∙ get_or_append_left rows' (row ∷ []) _ k lt);
        flow = ap (λ (z : List ℤ). number_at z k) whole ∙ get_or-take (length rows') w k _ lt;
      }
