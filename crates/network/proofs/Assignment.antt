-- A perfect assignment is a legal flow of the reduced instance, and the other way round.
use Rattle.std.proofs.Common.{◌≡◌, ◌≢◌, ℕ, ◌==◌, ℤ, pos, neg_ℤ, inl, inr, Bool, true, false, true≢false, ◌||◌, if◌then◌else◌, List, [], ◌∷◌, refl, sym, ap, ◌∙◌, arith, eqb-true}
use Rattle.std.proofs.lemmas.Int.{ints, by_lt_z}
use Rattle.std.specs.List.{AllZip, AllByRecursion}
use Rattle.dimacs_text.specs.declared.problem.ArcRow.{ArcRow}
use Rattle.dimacs_text.specs.Lawful.{IsLawfulRow}
use Rattle.network.specs.Flow.{net, outflow, inflow, IsWithinBounds, AllWithinBounds}
use Rattle.network.specs.Instance.{Sides, ArcFits, IsChoice, chosen_at, is_marked, reduced_supply}
use Rattle.network.proofs.IntegerAlgebra.{linear}

module _ (n : ℕ) (marks : List Bool) where
  same_side : (u v : ℕ) (b : Bool) → is_marked marks u ≡ b → (c : Bool) → is_marked marks v ≡ c → b ≢ c → (d : Bool) → (u == v) ≡ d → d ≡ false
  same_side u v b e c f apart true is = absurd (apart (sym e ∙ ap (is_marked marks) (eqb-true u v is) ∙ f))
  same_side u v b e c f apart false is = refl

  -- all arcs at a node of the source side lead out of it, and into one of the sink side
  sums_at : (v : ℕ) (arcs : List ArcRow) (flow : List ℤ) → AllByRecursion (λ arc. IsLawfulRow n arc × ArcFits (Sides marks) arc) arcs
      → (is_marked marks v ≡ true → (inflow arcs flow v ≡ pos 0) × (outflow arcs flow v ≡ chosen_at arcs flow v))
      × (is_marked marks v ≡ false → (outflow arcs flow v ≡ pos 0) × (inflow arcs flow v ≡ chosen_at arcs flow v))
  sums_at v (arc ∷ arcs) (x ∷ flow) fits =
      let rest = sums_at v arcs flow fits.1 in (
        λ m.
            let h = same_side arc.head v false fits.0.1.3 true m (λ e. true≢false (sym e)) (arc.head == v) refl in
            let r = rest.0 m in
            let into : (if arc.head == v then x else pos 0) ≡ pos 0 = rw h refl in
            let out : (if (arc.tail == v) || (arc.head == v) then x else pos 0) ≡ (if arc.tail == v then x else pos 0) = rw h (or_false (arc.tail == v) x) in
            (omega (arith, linear), omega (arith, linear)),
        λ m.
            let h = same_side arc.tail v true fits.0.1.2 false m true≢false (arc.tail == v) refl in
            let r = rest.1 m in
            let out : (if arc.tail == v then x else pos 0) ≡ pos 0 = rw h refl in
            let into : (if (arc.tail == v) || (arc.head == v) then x else pos 0) ≡ (if arc.head == v then x else pos 0) = rw h refl in
            (omega (arith, linear), omega (arith, linear)),
      )
    where
      or_false : (b : Bool) (x : ℤ) → (if b || false then x else pos 0) ≡ (if b then x else pos 0)
      or_false true x = refl
      or_false false x = refl
  sums_at v _ _ fits = (λ _. (refl, refl), λ _. (refl, refl))

  choice_is_bounded : (arc : ArcRow) (x : ℤ) → ArcFits (Sides marks) arc → IsChoice arc x → IsWithinBounds arc x
  choice_is_bounded arc x fits (inl zero) = elim fits.1 [ inl c ↦ (let l = fits.0 in (omega (arith, ints), omega (arith, ints))) | inr c ↦ (let l = fits.0 in (omega (arith, ints), omega (arith, ints))) ]
  choice_is_bounded arc x fits (inr one) = let l = fits.0 in (omega (arith, ints), omega (arith, ints))

  bounded_is_choice : (arc : ArcRow) (x : ℤ) → ArcFits (Sides marks) arc → IsWithinBounds arc x → IsChoice arc x
  bounded_is_choice arc x fits bounds =
      let l = fits.0 in
      elim fits.1 [
        | inl c ↦ inl (omega (arith, ints))
        | inr c ↦ by_lt_z (pos 0) x (λ above. inr (omega (arith, ints), c)) (λ below. inl (omega (arith, ints)))
      ]

  pub choices_are_bounded : (arcs : List ArcRow) (flow : List ℤ) → AllByRecursion (λ arc. IsLawfulRow n arc × ArcFits (Sides marks) arc) arcs → AllZip IsChoice arcs flow → AllWithinBounds arcs flow
  choices_are_bounded [] [] fits h = h
  choices_are_bounded (arc ∷ arcs) (x ∷ flow) fits h = (choice_is_bounded arc x fits.0.1 h.0, choices_are_bounded arcs flow fits.1 h.1)
  choices_are_bounded _ _ fits h = absurd h

  pub bounded_are_choices : (arcs : List ArcRow) (flow : List ℤ) → AllByRecursion (λ arc. IsLawfulRow n arc × ArcFits (Sides marks) arc) arcs → AllWithinBounds arcs flow → AllZip IsChoice arcs flow
  bounded_are_choices [] [] fits h = h
  bounded_are_choices (arc ∷ arcs) (x ∷ flow) fits h = (bounded_is_choice arc x fits.0.1 h.0, bounded_are_choices arcs flow fits.1 h.1)
  bounded_are_choices _ _ fits h = absurd h

  -- the net at a node is 1 or -1 exactly where one chosen arc has it as an end
  pub net_from_chosen : (v : ℕ) (arcs : List ArcRow) (flow : List ℤ) → AllByRecursion (λ arc. IsLawfulRow n arc × ArcFits (Sides marks) arc) arcs
      → chosen_at arcs flow v ≡ pos 1 → net arcs flow v ≡ reduced_supply (Sides marks) v
  net_from_chosen v arcs flow fits one = go (is_marked marks v) refl
    where
      go : (b : Bool) → is_marked marks v ≡ b → net arcs flow v ≡ (if b then pos 1 else neg_ℤ (pos 1))
      go true m = let s = (sums_at v arcs flow fits).0 m in omega (arith, ints)
      go false m = let s = (sums_at v arcs flow fits).1 m in omega (arith, ints)

  pub chosen_from_net : (v : ℕ) (arcs : List ArcRow) (flow : List ℤ) → AllByRecursion (λ arc. IsLawfulRow n arc × ArcFits (Sides marks) arc) arcs
      → net arcs flow v ≡ reduced_supply (Sides marks) v → chosen_at arcs flow v ≡ pos 1
  chosen_from_net v arcs flow fits = go (is_marked marks v) refl
    where
      go : (b : Bool) → is_marked marks v ≡ b → net arcs flow v ≡ (if b then pos 1 else neg_ℤ (pos 1)) → chosen_at arcs flow v ≡ pos 1
      go true m e = let s = (sums_at v arcs flow fits).0 m in omega (arith, ints)
      go false m e = let s = (sums_at v arcs flow fits).1 m in omega (arith, ints)
