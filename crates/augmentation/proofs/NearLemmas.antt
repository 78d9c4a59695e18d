-- Potentials that keep step with the labels of a tree, and what is written of them.
use Rattle.std.proofs.Common.{◌≡◌, ℕ, ◌<◌, ◌≤◌, ℤ, pos, List, Bool, true, length, sym, ap, subst, ◌∙◌, inl, inr, arith}
use Rattle.std.specs.Prelude.{Any, slice_set, slice_index_or}
use Rattle.std.proofs.lemmas.List.{ext_get_or, get_or-set_other}
use Rattle.residual_graph.specs.Residual.{number_at}
use Rattle.shortest_paths.specs.Tree.{AgreeUnmarked, AreInStep, IsMarkedToo, IsRelabelled, StaysHeld, TreeView}
use Rattle.tracked.specs.Marks.{in_set}
use Rattle.tracked.specs.NodeLists.{node_at}
use Rattle.tracked.specs.Touched.{NameChanges}
use Rattle.tracked.proofs.TouchedLemmas.{noted_or_not}
use Rattle.augmentation.proofs.HeldLemmas.{at_named}

-- ---- a table that becomes another at named places

-- so far: what agreed does still, and the first j places agree
pub record IsMade (places : List ℕ) (j : ℕ) (start xs ys : List ℤ) : Type 0 where
  pub same_length : length xs ≡ length ys
  pub still : (u : ℕ) → number_at start u ≡ number_at ys u → number_at xs u ≡ number_at ys u
  pub done : (i : ℕ) → i < j → number_at xs (node_at places i) ≡ number_at ys (node_at places i)

-- once all are gone over the tables are the same, where the places name each one at which they differed
pub made_all : (places : List ℕ) (j : ℕ) (start xs ys : List ℤ) → IsMade places j start xs ys → length start ≡ length ys → NameChanges 0 places start ys → length places ≤ j → xs ≡ ys
made_all places j start xs ys made sized named all =
    ext_get_or (pos 0) xs ys made.same_length (λ u lt. elim (named u (omega (arith, lt, sized, made.same_length))) [
      | inl there ↦ at_named places (λ (v : ℕ). number_at xs v ≡ number_at ys v) (λ i in_list. made.done i (omega (arith, in_list, all))) u (subst (λ (v : ℕ). Any (λ p. p ≡ v) places) (omega arith) there)
      | inr agree ↦ made.still u (sym (agree (pos 0)))
    ])

-- ---- potentials and labels

-- the places that list the marks name each node at which the labels are to be written
pub named_apart : (marks : List Bool) (places : List ℕ) (q p : List ℤ) → AgreeUnmarked marks q p → ((v : ℕ) → in_set marks v ≡ true → Any (λ u. u ≡ v) places) → NameChanges 0 places p q
named_apart marks places q p step listed = λ v lt. elim (noted_or_not marks v) [
  | inl marked ↦ inl (subst (λ (u : ℕ). Any (λ w. w ≡ u) places) (omega arith) (listed v marked))
  | inr out ↦ inr (λ d. sym (step v out d))
]

-- labels that were written at marked nodes alone are in step as before
pub step_moved : (t u : TreeView) → IsRelabelled t u → (p : List ℤ) → AreInStep t p → AreInStep u p
step_moved t u moved p step = λ few v out d.
    (let before = moved.labels v out in
    step (sym moved.apart ∙ few) v before.0 d ∙ sym (before.1 d))

-- and so are those of a tree that notes arcs
pub step_kept : (t u : TreeView) → StaysHeld t u → (p : List ℤ) → AreInStep t p → AreInStep u p
step_kept t u stays p step = λ few. rw (stays.labels, stays.touched) (step (stays.apart few))

-- where a potential is written, and its node marked
pub step_noted : (t : TreeView) (touched : List Bool) (p p' : List ℤ) (v : ℕ) (value : ℤ) → AreInStep t p → IsMarkedToo v t.touched touched → p' ≡ slice_set p v value → AreInStep (record t { touched = touched }) p'
step_noted t touched p p' v value step marked set = λ few u out d.
    (let before = marked u out in
    ap (λ (z : List ℤ). slice_index_or z u d) set ∙ get_or-set_other p v u value d before.1 ∙ step few u before.0 d)

-- potentials that are the labels are in step with them
pub step_same : (t : TreeView) (p : List ℤ) → p ≡ t.labels → AreInStep t p
step_same t p same = λ few v out d. ap (λ (q : List ℤ). slice_index_or q v d) same
