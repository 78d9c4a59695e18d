-- Steps that take back as many others.
use Rattle.std.proofs.Common.{◌≡◌, ℕ, zero, suc, List, ◌∷◌, get_or, refl, sym, ap, subst, ◌∙◌, drop}
use Rattle.std.proofs.lemmas.List.{same_from_push}
use Rattle.history.specs.Boards.{Timeline, StepsBack, StepsForward, Advances}
use Rattle.history.specs.Repeated.{Repeated}

module _ {B : Type 0} where
  -- one step more at the end
  repeated_last : (Step : Timeline B → Timeline B → Type 0) (n : ℕ) (old new : Timeline B) → Repeated Step (suc n) old new → (mid : Timeline B) × Repeated Step n old mid × Step mid new
  repeated_last Step zero old new (mid, step, same) = (old, refl, subst (Step old) (sym same) step)
  repeated_last Step (suc n) old new (first, step, more) =
      let (mid, before, last) = repeated_last Step n first new more in
      (mid, (first, step, before), last)

  -- two timelines with the same lists and the same present board
  same_timelines : (s t : Timeline B) → s.past ≡ t.past → s.present ≡ t.present → s.future ≡ t.future → s ≡ t
  same_timelines s t past present future =
      ap (λ (bs : List B). record { past = bs; present = s.present; future = s.future }) past
      ∙ ap (λ (b : B). record { past = t.past; present = b; future = s.future }) present
      ∙ ap (λ (bs : List B). record { past = t.past; present = t.present; future = bs }) future

  pub new_step_undone : (old mid new : Timeline B) → Advances old mid → StepsBack mid new → (new.past ≡ old.past) × (new.present ≡ old.present)
  new_step_undone old mid new made back = same_from_push new.past old.past new.present old.present (sym back.past ∙ made.past)

  pub step_redone : (old mid new : Timeline B) → StepsBack old mid → StepsForward mid new → new ≡ old
  step_redone old mid new back forward =
      let future : new.present ∷ new.future ≡ old.present ∷ old.future = sym forward.future ∙ back.future in
      same_timelines new old (forward.past ∙ sym back.past) (ap (λ (bs : List B). get_or bs 0 new.present) future) (ap (drop 1) future)

  pub step_undone : (old mid new : Timeline B) → StepsForward old mid → StepsBack mid new → new ≡ old
  step_undone old mid new forward back =
      let past = same_from_push new.past old.past new.present old.present (sym back.past ∙ forward.past) in
      same_timelines new old past.0 past.1 (back.future ∙ sym forward.future)

  pub new_steps_undone : (n : ℕ) (old mid new : Timeline B) → Repeated Advances n old mid → Repeated StepsBack n mid new → (new.past ≡ old.past) × (new.present ≡ old.present)
  new_steps_undone zero old mid new made undone = (ap (λ (t : Timeline B). t.past) (undone ∙ made), ap (λ (t : Timeline B). t.present) (undone ∙ made))
  new_steps_undone (suc n) old mid new (first, step, made) undone =
      let (before, most, last) = repeated_last StepsBack n mid new undone in
      let inner = new_steps_undone n first mid before made most in
      same_from_push new.past old.past new.present old.present (sym last.past ∙ inner.0 ∙ step.past)

  module _ (Step Back : Timeline B → Timeline B → Type 0) (taken_back : (old mid new : Timeline B) → Step old mid → Back mid new → new ≡ old) where
    all_taken_back : (n : ℕ) (old mid new : Timeline B) → Repeated Step n old mid → Repeated Back n mid new → new ≡ old
    all_taken_back zero old mid new there again = again ∙ there
    all_taken_back (suc n) old mid new (first, step, there) again =
        let (before, most, last) = repeated_last Back n mid new again in
        taken_back old first new step (subst (λ (t : Timeline B). Back t new) (all_taken_back n first mid before there most) last)

  pub steps_redone : (n : ℕ) (old mid new : Timeline B) → Repeated StepsBack n old mid → Repeated StepsForward n mid new → new ≡ old
  steps_redone = all_taken_back StepsBack StepsForward step_redone

  pub steps_undone : (n : ℕ) (old mid new : Timeline B) → Repeated StepsForward n old mid → Repeated StepsBack n mid new → new ≡ old
  steps_undone = all_taken_back StepsForward StepsBack step_undone
