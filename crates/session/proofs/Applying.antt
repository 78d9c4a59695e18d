-- What accepted edits leave in the tables.
use Rattle.std.proofs.Common.{◌≡◌, [], ◌∷◌, Option, Some, Result, Ok, Err, IfOk, OnOk, sym, ap, ◌∙◌}
use Rattle.std.specs.Option.{unwrap_or}
use Rattle.dimacs_text.specs.declared.command.Edit.{Edit}
use Rattle.network.specs.Instance.{at_node}
use Rattle.network.proofs.EditedAll.{edited_one}
use Rattle.flow_solver.specs.Moment.{Moment}
use Rattle.flow_solver.specs.TablesView.{TablesView}
use Rattle.flow_solver.proofs.GroupLemmas.{one_change}
use Rattle.session.specs.Session.{AreEdited, IsEdited, old_moment}

pub was_there : (shown : TablesView) (old : Moment) → shown.before ≡ Some old → old_moment shown ≡ old
was_there shown old is = ap (λ (o : Option Moment). unwrap_or o shown.moment) is

pub led : (o : Option Moment) (a b : Moment) → o ≡ Some a → o ≡ Some b → a ≡ b
led o a b is_a is_b = cc

pub on_ok : {A E : Type 0} (result : Result A E) (P Q : Type 0) → (P → Q) → OnOk result P → OnOk result Q
on_ok (Ok x) P Q so holds = so holds
on_ok (Err e) P Q so holds = tt

pub on_ok_both : {A E : Type 0} (result : Result A E) (P Q R : Type 0) → (P → Q → R) → OnOk result P → OnOk result Q → OnOk result R
on_ok_both (Ok x) P Q R so first second = so first second
on_ok_both (Err e) P Q R so first second = tt

pub if_ok : {A E : Type 0} (result : Result A E) (P Q : A → Type 0) → ((x : A) → P x → Q x) → IfOk result P → IfOk result Q
if_ok (Ok x) P Q so holds = so x holds
if_ok (Err e) P Q so holds = tt

-- an edit that is made alone
pub one_edited : (edit : Edit) (old new : Moment) → AreEdited (edit ∷ []) old new → IsEdited edit old new
one_edited edit old new is = record {
  instance = sym (edited_one old.instance edit) ∙ is.instance;
  answered = is.answered;
  pushes = is.pushes;
  led = one_change old.instance new.instance edit (at_node old.potentials) old.flow new.flow is.pushes is.led;
}
