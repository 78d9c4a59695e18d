-- The step of an edit and of a group, where the session refuses it.
use Rattle.std.proofs.Common.{◌≡◌, ℕ, ◌⊎◌, Option, None, Some, Result, Ok, Err, ◌↔◌, inr, MatchResult, refl, sym, subst}
use Rattle.std.specs.Option.{option_map}
use Rattle.dimacs_text.specs.declared.command.Edit.{Edit}
use Rattle.dimacs_text.specs.declared.command_fault.CommandFault.{CommandFault}
use Rattle.dimacs_text.specs.CommandFault.{number_of as fault_number}
use Rattle.dimacs_text.specs.Group.{Gathered}
use Rattle.network.specs.Edited.{edited, edited_all}
use Rattle.network.specs.Instance.{Instance}
use Rattle.session.specs.declared.refusal.Refusal.{Refusal}
use Rattle.session.specs.declared.refusal.Refusal.TheVariants as refusal
use Rattle.session.specs.declared.refusal.StepRefusal.TheVariants as step_refusal
use Rattle.session.specs.Refusal.{number_of, of_edits}
use Rattle.session.specs.Step.{IsApplied, IsRefused, Refuses, Reply, SessionState, StepOfEdit, StepOfEdits, StepOfGroup}

-- ---- the step of an edit

edit_by : (r : Result Instance ℕ) (edit : Edit) (old : SessionState) (reply : Reply) (new : SessionState) → edited old.moments.present.instance edit ≡ r
    → MatchResult r (λ _. IsApplied edit old reply new ⊎ IsRefused (number_of step_refusal.Memory) old reply new) (λ number. IsRefused number old reply new) → StepOfEdit edit old reply new
edit_by r edit old reply new e step =
    subst (λ (q : Result Instance ℕ). MatchResult q (λ _. IsApplied edit old reply new ⊎ IsRefused (number_of step_refusal.Memory) old reply new) (λ number. IsRefused number old reply new)) (sym e) step

pub edit_refused : (edit : Edit) (old new : SessionState) (r : Refusal) → new ≡ old
    → ((number : ℕ) → (◌≡◌ {A = Result ℕ Refusal} (Err r) (Err (refusal.Cause number))) ↔ (edited old.moments.present.instance edit ≡ Err number))
    → StepOfEdit edit old (Refuses (number_of (of_edits r))) new
edit_refused edit old new (refusal.Cause number) same cause =
    edit_by (Err number) edit old (Refuses number) new ((cause number).0 refl) (record { reply_is = refl; unchanged = same })
edit_refused edit old new refusal.Memory same cause = by (edited old.moments.present.instance edit) refl
  where
    by : (q : Result Instance ℕ) → edited old.moments.present.instance edit ≡ q → StepOfEdit edit old (Refuses (number_of step_refusal.Memory)) new
    by (Ok I) e = edit_by (Ok I) edit old (Refuses (number_of step_refusal.Memory)) new e (inr (record { reply_is = refl; unchanged = same }))
    by (Err number) e = absurd (other ((cause number).1 e))
      where
        other : ◌≡◌ {A = Result ℕ Refusal} (Err refusal.Memory) (Err (refusal.Cause number)) → ⊥
        other h = cc

-- ---- the step of a group

group_by : (r : Result Instance ℕ) (group : Gathered) (old : SessionState) (reply : Reply) (new : SessionState) → edited_all old.moments.present.instance group.edits ≡ r
    → MatchResult r (λ _. StepOfEdits group.fault group.edits old reply new) (λ number. IsRefused number old reply new) → StepOfGroup group old reply new
group_by r group old reply new e step =
    subst (λ (q : Result Instance ℕ). MatchResult q (λ _. StepOfEdits group.fault group.edits old reply new) (λ number. IsRefused number old reply new)) (sym e) step

edits_by : (fault : Option CommandFault) (group : Gathered) (old : SessionState) (reply : Reply) (new : SessionState) → group.fault ≡ fault
    → StepOfEdits fault group.edits old reply new → StepOfEdits group.fault group.edits old reply new
edits_by fault group old reply new e step = subst (λ (f : Option CommandFault). StepOfEdits f group.edits old reply new) (sym e) step

no_fault : (fault : Option CommandFault) → option_map fault_number fault ≡ None → fault ≡ None
no_fault None e = refl
no_fault (Some f) e = absurd cc

-- no line is refused by itself, but the session refuses the edits
pub group_refused : (group : Gathered) (old new : SessionState) (r : Refusal) → option_map fault_number group.fault ≡ None → new ≡ old
    → ((number : ℕ) → (◌≡◌ {A = Result ℕ Refusal} (Err r) (Err (refusal.Cause number))) ↔ (edited_all old.moments.present.instance group.edits ≡ Err number))
    → StepOfGroup group old (Refuses (number_of (of_edits r))) new
group_refused group old new (refusal.Cause number) none same cause =
    group_by (Err number) group old (Refuses number) new ((cause number).0 refl) (record { reply_is = refl; unchanged = same })
group_refused group old new refusal.Memory none same cause = by (edited_all old.moments.present.instance group.edits) refl
  where
    by : (q : Result Instance ℕ) → edited_all old.moments.present.instance group.edits ≡ q → StepOfGroup group old (Refuses (number_of step_refusal.Memory)) new
    by (Ok I) e =
        group_by (Ok I) group old (Refuses (number_of step_refusal.Memory)) new e (edits_by None group old (Refuses (number_of step_refusal.Memory)) new (no_fault group.fault none) (inr (record { reply_is = refl; unchanged = same })))
    by (Err number) e = absurd (other ((cause number).1 e))
      where
        other : ◌≡◌ {A = Result ℕ Refusal} (Err refusal.Memory) (Err (refusal.Cause number)) → ⊥
        other h = cc
