-- Sessions that differ in flows alone take each turn alike.
use Rattle.std.proofs.Common.{◌≡◌, ◌≢◌, ℕ, Bool, true, false, Some, None, Option, Ok, Err, Result, List, [], ◌∷◌, ◌++◌, length, length-append, inl, inr, refl, sym, ap, subst, ◌∙◌, arith}
use Rattle.std.specs.Prelude.{MatchResult, ◌⊎◌}
use Rattle.std.specs.List.{AllZip}
use Rattle.dimacs_text.specs.declared.command_fault.CommandFault.{CommandFault}
use Rattle.dimacs_text.specs.CommandFault.{number_of}
use Rattle.dimacs_text.specs.declared.command.Edit.{Edit}
use Rattle.dimacs_text.specs.declared.command.Command.{Command}
use Rattle.dimacs_text.specs.declared.command.Command.TheVariants as commands
use Rattle.dimacs_text.specs.Command.{command}
use Rattle.dimacs_text.specs.Group.{Gathered, gathered}
use Rattle.dimacs_text.specs.Turns.{Turn, OfLine, OfGroup}
use Rattle.history.specs.Boards.{Timeline, all_boards, Advances}
use Rattle.network.specs.Edited.{edited, edited_all}
use Rattle.network.specs.Instance.{Instance, kind_of}
use Rattle.flow_solver.specs.Moment.{Moment}
use Rattle.session.specs.declared.refusal.StepRefusal.TheVariants as refusal
use Rattle.session.specs.Marks.{marked, has_place, with_mark, up_to}
use Rattle.session.specs.Refusal.{number_of as step_number}
use Rattle.session.specs.Step.{Reply, Refuses, SessionState, IsRefused, IsShown, IsApplied, AreApplied, IsUndone, IsRedone, IsPut, IsMoved, StepOfMark, StepOfBack, StepBy, StepOfEdits, TurnStep}
use Rattle.run_laws.specs.Alike.{MomentsAlike, StatesAlike}
use Rattle.run_laws.proofs.Lists.{joined, parted, as_long}

-- the number by which want of memory is reported
abbrev memory : ℕ
memory = step_number refusal.Memory

Same : Reply → Reply → SessionState → SessionState → Type 0
Same r q s' t' = (q ≡ r) × StatesAlike s' t'

ok_same : {A B : Type 0} (x y : A) → ◌≡◌ {A = Result A B} (Ok x) (Ok y) → x ≡ y
ok_same x y e = cc

-- one element at the end of a list
module _ {X : Type 0} (R : X → X → Type 0) where
  pushed : (xs ys : List X) (x y : X) → AllZip R xs ys → R x y → AllZip R (xs ++ x ∷ []) (ys ++ y ∷ [])
  pushed xs ys x y all here = joined R xs ys (x ∷ []) (y ∷ []) all (here, tt)

module _ (s t : SessionState) (alike : StatesAlike s t) where
  instance_is : t.moments.present.instance ≡ s.moments.present.instance
  instance_is = alike.present.instance

  refused_alike : (n m : ℕ) (r q : Reply) (s' t' : SessionState) → m ≡ n → IsRefused n s r s' → IsRefused m t q t' → Same r q s' t'
  unfolding Same
  refused_alike n m r q s' t' e a b = (b.reply_is ∙ ap Refuses e ∙ sym a.reply_is, subst (λ (x : SessionState). StatesAlike x t') (sym a.unchanged) (subst (λ (y : SessionState). StatesAlike s y) (sym b.unchanged) alike))

  shown_alike : (p : Bool) (r q : Reply) (s' t' : SessionState) → IsShown p s r s' → IsShown p t q t' → Same r q s' t'
  unfolding Same
  shown_alike p r q s' t' a b = (b.reply_is ∙ sym a.reply_is, subst (λ (x : SessionState). StatesAlike x t') (sym a.unchanged) (subst (λ (y : SessionState). StatesAlike s y) (sym b.unchanged) alike))

  -- a new step on both sides
  advanced : (s' t' : SessionState) → Advances s.moments s'.moments → Advances t.moments t'.moments → MomentsAlike s'.moments.present t'.moments.present
      → s'.marks ≡ up_to (length s.moments.past) s.marks → t'.marks ≡ up_to (length t.moments.past) t.marks → StatesAlike s' t'
  advanced s' t' a b here m n = record {
    past = subst (λ (xs : List Moment). AllZip MomentsAlike xs t'.moments.past) (sym a.past) (subst (λ (ys : List Moment). AllZip MomentsAlike (s.moments.past ++ s.moments.present ∷ []) ys) (sym b.past) (pushed MomentsAlike s.moments.past t.moments.past s.moments.present t.moments.present alike.past alike.present));
    present = here;
    future = subst (λ (xs : List Moment). AllZip MomentsAlike xs t'.moments.future) (sym a.future) (subst (λ (ys : List Moment). AllZip MomentsAlike [] ys) (sym b.future) tt);
    marks = n ∙ ap (λ (k : ℕ). up_to k t.marks) (as_long MomentsAlike s.moments.past t.moments.past alike.past) ∙ ap (up_to (length s.moments.past)) alike.marks ∙ sym m;
  }

  never : (r : Reply) (P : Type 0) → r ≢ Refuses memory → r ≡ Refuses memory → P
  never r P not is = absurd (not is)

  applied_alike : (e : Edit) (r q : Reply) (s' t' : SessionState) → IsApplied e s r s' → IsApplied e t q t' → Same r q s' t'
  unfolding Same
  applied_alike e r q s' t' a b = (
    b.reply_is ∙ sym a.reply_is,
    advanced s' t' a.advances b.advances
        (record { instance = ok_same _ _ (sym b.edited_to.instance ∙ ap (λ (I : Instance). edited I e) instance_is ∙ a.edited_to.instance); one = a.edited_to.answered; other = b.edited_to.answered }) a.marks b.marks,
  )

  group_alike : (es : List Edit) (r q : Reply) (s' t' : SessionState) → AreApplied es s r s' → AreApplied es t q t' → Same r q s' t'
  unfolding Same
  group_alike es r q s' t' a b = (
    b.reply_is ∙ sym a.reply_is,
    advanced s' t' a.advances b.advances
        (record { instance = ok_same _ _ (sym b.edited_to.instance ∙ ap (λ (I : Instance). edited_all I es) instance_is ∙ a.edited_to.instance); one = a.edited_to.answered; other = b.edited_to.answered }) a.marks b.marks,
  )

  -- an edit, by what the test of it says
  edit_by : (m : Result Instance ℕ) (e : Edit) (r q : Reply) (s' t' : SessionState) → r ≢ Refuses memory → q ≢ Refuses memory
      → MatchResult m (λ _. IsApplied e s r s' ⊎ IsRefused memory s r s') (λ n. IsRefused n s r s') → MatchResult m (λ _. IsApplied e t q t' ⊎ IsRefused memory t q t') (λ n. IsRefused n t q t') → Same r q s' t'
  edit_by (Ok J) e r q s' t' nr nq (inl a) (inl b) = applied_alike e r q s' t' a b
  edit_by (Ok J) e r q s' t' nr nq (inl a) (inr b) = absurd (nq b.reply_is)
  edit_by (Ok J) e r q s' t' nr nq (inr a) b = absurd (nr a.reply_is)
  edit_by (Err n) e r q s' t' nr nq a b = refused_alike n n r q s' t' refl a b

  edits_by : (f : Option CommandFault) (es : List Edit) (r q : Reply) (s' t' : SessionState) → r ≢ Refuses memory → q ≢ Refuses memory → StepOfEdits f es s r s' → StepOfEdits f es t q t' → Same r q s' t'
  edits_by (Some f) es r q s' t' nr nq a b = refused_alike (number_of f) (number_of f) r q s' t' refl a b
  edits_by None es r q s' t' nr nq (inl a) (inl b) = group_alike es r q s' t' a b
  edits_by None es r q s' t' nr nq (inl a) (inr b) = absurd (nq b.reply_is)
  edits_by None es r q s' t' nr nq (inr a) b = absurd (nr a.reply_is)

  group_by : (m : Result Instance ℕ) (g : Gathered) (r q : Reply) (s' t' : SessionState) → r ≢ Refuses memory → q ≢ Refuses memory
      → MatchResult m (λ _. StepOfEdits g.fault g.edits s r s') (λ n. IsRefused n s r s') → MatchResult m (λ _. StepOfEdits g.fault g.edits t q t') (λ n. IsRefused n t q t') → Same r q s' t'
  group_by (Ok J) g r q s' t' nr nq a b = edits_by g.fault g.edits r q s' t' nr nq a b
  group_by (Err n) g r q s' t' nr nq a b = refused_alike n n r q s' t' refl a b

  -- undo and redo
  back_alike : (r q : Reply) (s' t' : SessionState) → IsUndone s r s' → IsUndone t q t' → Same r q s' t'
  unfolding Same
  back_alike r q s' t' a b =
      let all : AllZip MomentsAlike (s'.moments.past ++ s'.moments.present ∷ []) (t'.moments.past ++ t'.moments.present ∷ []) =
      subst (λ (xs : List Moment). AllZip MomentsAlike xs (t'.moments.past ++ t'.moments.present ∷ [])) a.back.past (subst (λ (ys : List Moment). AllZip MomentsAlike s.moments.past ys) b.back.past alike.past) in
      let len : length t'.moments.past ≡ length s'.moments.past = omega (arith, as_long MomentsAlike _ _ all, length-append s'.moments.past (s'.moments.present ∷ []), length-append t'.moments.past (t'.moments.present ∷ [])) in
      let two = parted MomentsAlike s'.moments.past t'.moments.past (s'.moments.present ∷ []) (t'.moments.present ∷ []) len all in (
        b.reply_is ∙ sym a.reply_is,
        record {
          past = two.0;
          present = two.1.0;
          future = subst (λ (xs : List Moment). AllZip MomentsAlike xs t'.moments.future) (sym a.back.future) (subst (λ (ys : List Moment). AllZip MomentsAlike (s.moments.present ∷ s.moments.future) ys) (sym b.back.future) (alike.present, alike.future));
          marks = b.marks ∙ alike.marks ∙ sym a.marks;
        },
      )

  forward_alike : (r q : Reply) (s' t' : SessionState) → IsRedone s r s' → IsRedone t q t' → Same r q s' t'
  unfolding Same
  forward_alike r q s' t' a b =
      let all : AllZip MomentsAlike (s'.moments.present ∷ s'.moments.future) (t'.moments.present ∷ t'.moments.future) =
      subst (λ (xs : List Moment). AllZip MomentsAlike xs (t'.moments.present ∷ t'.moments.future)) a.forward.future (subst (λ (ys : List Moment). AllZip MomentsAlike s.moments.future ys) b.forward.future alike.future) in (
        b.reply_is ∙ sym a.reply_is,
        record {
          past = subst (λ (xs : List Moment). AllZip MomentsAlike xs t'.moments.past) (sym a.forward.past) (subst (λ (ys : List Moment). AllZip MomentsAlike (s.moments.past ++ s.moments.present ∷ []) ys) (sym b.forward.past) (pushed MomentsAlike s.moments.past t.moments.past s.moments.present t.moments.present alike.past alike.present));
          present = all.0;
          future = all.1;
          marks = b.marks ∙ alike.marks ∙ sym a.marks;
        },
      )

  -- nothing on one side only
  none_back : (r : Reply) (s' : SessionState) → IsUndone s r s' → t.moments.past ≡ [] → ⊥
  none_back r s' a none = omega (arith, as_long MomentsAlike s.moments.past t.moments.past alike.past, ap length a.back.past, length-append s'.moments.past (s'.moments.present ∷ []), ap length none)

  back_none : (q : Reply) (t' : SessionState) → s.moments.past ≡ [] → IsUndone t q t' → ⊥
  back_none q t' none b = omega (arith, as_long MomentsAlike s.moments.past t.moments.past alike.past, ap length b.back.past, length-append t'.moments.past (t'.moments.present ∷ []), ap length none)

  none_forward : (r : Reply) (s' : SessionState) → IsRedone s r s' → t.moments.future ≡ [] → ⊥
  none_forward r s' a none = omega (arith, as_long MomentsAlike s.moments.future t.moments.future alike.future, ap length a.forward.future, ap length none)

  forward_none : (q : Reply) (t' : SessionState) → s.moments.future ≡ [] → IsRedone t q t' → ⊥
  forward_none q t' none b = omega (arith, as_long MomentsAlike s.moments.future t.moments.future alike.future, ap length b.forward.future, ap length none)

  -- marks
  put_alike : (name : List ℕ) (r q : Reply) (s' t' : SessionState) → IsPut name s r s' → IsPut name t q t' → Same r q s' t'
  unfolding Same
  put_alike name r q s' t' a b = (
    b.reply_is ∙ sym a.reply_is,
    record {
      past = subst (λ (m : Timeline Moment). AllZip MomentsAlike m.past t'.moments.past) (sym a.moments) (subst (λ (m : Timeline Moment). AllZip MomentsAlike s.moments.past m.past) (sym b.moments) alike.past);
      present = subst (λ (m : Timeline Moment). MomentsAlike m.present t'.moments.present) (sym a.moments) (subst (λ (m : Timeline Moment). MomentsAlike s.moments.present m.present) (sym b.moments) alike.present);
      future = subst (λ (m : Timeline Moment). AllZip MomentsAlike m.future t'.moments.future) (sym a.moments) (subst (λ (m : Timeline Moment). AllZip MomentsAlike s.moments.future m.future) (sym b.moments) alike.future);
      marks = b.marks ∙ ap (λ (k : ℕ). with_mark t.marks name k) (as_long MomentsAlike s.moments.past t.moments.past alike.past) ∙ ap (λ ms. with_mark ms name (length s.moments.past)) alike.marks ∙ sym a.marks;
    },
  )

  mark_by : (b : Bool) (name : List ℕ) (r q : Reply) (s' t' : SessionState) → StepOfMark b name s r s' → StepOfMark b name t q t' → Same r q s' t'
  mark_by true name r q s' t' a b = put_alike name r q s' t' a b
  mark_by false name r q s' t' a b = refused_alike _ _ r q s' t' refl a b

  moved_alike : (n : ℕ) (r q : Reply) (s' t' : SessionState) → IsMoved n s r s' → IsMoved n t q t' → Same r q s' t'
  unfolding Same
  moved_alike n r q s' t' a b =
      let all : AllZip MomentsAlike (all_boards s.moments) (all_boards t.moments) = joined MomentsAlike s.moments.past t.moments.past (s.moments.present ∷ s.moments.future) (t.moments.present ∷ t.moments.future) alike.past (alike.present, alike.future) in
      let new : AllZip MomentsAlike (all_boards s'.moments) (all_boards t'.moments) = subst (λ (xs : List Moment). AllZip MomentsAlike xs (all_boards t'.moments)) (sym a.moved.boards) (subst (λ (ys : List Moment). AllZip MomentsAlike (all_boards s.moments) ys) (sym b.moved.boards) all) in
      let two = parted MomentsAlike s'.moments.past t'.moments.past (s'.moments.present ∷ s'.moments.future) (t'.moments.present ∷ t'.moments.future) (b.moved.past ∙ sym a.moved.past) new in
      (b.reply_is ∙ sym a.reply_is, record { past = two.0; present = two.1.0; future = two.1.1; marks = b.marks ∙ alike.marks ∙ sym a.marks })

  back_by : (m : Option ℕ) (r q : Reply) (s' t' : SessionState) → StepOfBack m s r s' → StepOfBack m t q t' → Same r q s' t'
  back_by (Some n) r q s' t' a b = moved_alike n r q s' t' a b
  back_by None r q s' t' a b = refused_alike _ _ r q s' t' refl a b

  -- ---- commands

  by_command : (c : Command) (r q : Reply) (s' t' : SessionState) → r ≢ Refuses memory → q ≢ Refuses memory → StepBy c s r s' → StepBy c t q t' → Same r q s' t'
  by_command (commands.Edit e) r q s' t' nr nq a b =
      edit_by (edited s.moments.present.instance e) e r q s' t' nr nq a (subst (λ (I : Instance). MatchResult (edited I e) (λ _. IsApplied e t q t' ⊎ IsRefused memory t q t') (λ n. IsRefused n t q t')) instance_is b)
  by_command commands.Undo r q s' t' nr nq (inl a) (inl b) = back_alike r q s' t' a b
  by_command commands.Undo r q s' t' nr nq (inl a) (inr b) = absurd (none_back r s' a b.0)
  by_command commands.Undo r q s' t' nr nq (inr a) (inl b) = absurd (back_none q t' a.0 b)
  by_command commands.Undo r q s' t' nr nq (inr a) (inr b) = refused_alike _ _ r q s' t' refl a.1 b.1
  by_command commands.Redo r q s' t' nr nq (inl a) (inl b) = forward_alike r q s' t' a b
  by_command commands.Redo r q s' t' nr nq (inl a) (inr b) = absurd (none_forward r s' a b.0)
  by_command commands.Redo r q s' t' nr nq (inr a) (inl b) = absurd (forward_none q t' a.0 b)
  by_command commands.Redo r q s' t' nr nq (inr a) (inr b) = refused_alike _ _ r q s' t' refl a.1 b.1
  by_command commands.Show r q s' t' nr nq a b = shown_alike false r q s' t' a b
  by_command commands.Proof r q s' t' nr nq a b = shown_alike true r q s' t' a b
  by_command commands.Group r q s' t' nr nq a b = refused_alike _ _ r q s' t' refl a b
  by_command commands.End r q s' t' nr nq a b = refused_alike _ _ r q s' t' refl a b
  by_command (commands.Mark name) r q s' t' nr nq a b = mark_by (has_place s.marks name) name r q s' t' a (subst (λ ms. StepOfMark (has_place ms name) name t q t') alike.marks b)
  by_command (commands.Back name) r q s' t' nr nq a b = back_by (marked s.marks name) r q s' t' a (subst (λ ms. StepOfBack (marked ms name) t q t') alike.marks b)

  by_line : (m : Result Command ℕ) (r q : Reply) (s' t' : SessionState) → r ≢ Refuses memory → q ≢ Refuses memory
      → MatchResult m (λ c. StepBy c s r s') (λ n. IsRefused n s r s') → MatchResult m (λ c. StepBy c t q t') (λ n. IsRefused n t q t') → Same r q s' t'
  by_line (Ok c) r q s' t' nr nq a b = by_command c r q s' t' nr nq a b
  by_line (Err n) r q s' t' nr nq a b = refused_alike n n r q s' t' refl a b

  by_turn : (turn : Turn) (r q : Reply) (s' t' : SessionState) → r ≢ Refuses memory → q ≢ Refuses memory → TurnStep s turn r s' → TurnStep t turn q t' → Same r q s' t'
  by_turn (OfLine line) r q s' t' nr nq a b =
      by_line (command (kind_of s.moments.present.instance.demand) line) r q s' t' nr nq a
      (subst (λ (I : Instance). MatchResult (command (kind_of I.demand) line) (λ c. StepBy c t q t') (λ n. IsRefused n t q t')) instance_is b)
  by_turn (OfGroup lines) r q s' t' nr nq a b =
      group_by (edited_all s.moments.present.instance (gathered (kind_of s.moments.present.instance.demand) 0 lines).edits) (gathered (kind_of s.moments.present.instance.demand) 0 lines) r q s' t' nr nq a
      (subst (λ (I : Instance). MatchResult (edited_all I (gathered (kind_of I.demand) 0 lines).edits) (λ _. StepOfEdits (gathered (kind_of I.demand) 0 lines).fault (gathered (kind_of I.demand) 0 lines).edits t q t') (λ n. IsRefused n t q t')) instance_is b)

pub turns_alike : (s t s' t' : SessionState) (turn : Turn) (r q : Reply) → StatesAlike s t → TurnStep s turn r s' → TurnStep t turn q t' → r ≢ Refuses memory → q ≢ Refuses memory → (q ≡ r) × StatesAlike s' t'
unfolding Same
turns_alike s t s' t' turn r q alike a b nr nq = by_turn s t alike turn r q s' t' nr nq a b
