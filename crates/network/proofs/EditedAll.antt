-- Edits that are made together.
use Rattle.std.proofs.Common.{◌≡◌, ℕ, List, [], ◌∷◌, ◌++◌, Result, Ok, Err, refl}
use Rattle.dimacs_text.specs.declared.command.Edit.{Edit}
use Rattle.network.specs.Edited.{edited, edited_all, and_then}
use Rattle.network.specs.Instance.{Instance, IsLawful}
use Rattle.network.proofs.EditedLemmas.{edited_lawful}

one_by : (r : Result Instance ℕ) → and_then r (λ after. Ok after) ≡ r
one_by (Ok I) = refl
one_by (Err number) = refl

pub edited_one : (before : Instance) (edit : Edit) → edited_all before (edit ∷ []) ≡ edited before edit
unfolding edited_all
edited_one before edit = one_by (edited before edit)

-- the first edit was made, or refused
pub first_made : (r : Result Instance ℕ) (next : Instance → Result Instance ℕ) (after : Instance) → and_then r next ≡ Ok after
    → (between : Instance) × (r ≡ Ok between) × (next between ≡ Ok after)
first_made (Ok I) next after e = (I, refl, e)
first_made (Err number) next after e = cc

pub edited_more : (before between : Instance) (edits more : List Edit) → edited_all before edits ≡ Ok between → edited_all before (edits ++ more) ≡ edited_all between more
unfolding edited_all
edited_more before between [] more e = let same : before ≡ between = cc in rw same refl
edited_more before between (edit ∷ edits) more e =
    let first = first_made (edited before edit) (λ after. edited_all after edits) between e in
    rw first.1 (edited_more first.0 between edits more first.2)

more_by : (r : Result Instance ℕ) (next longer : Instance → Result Instance ℕ) (number : ℕ) → ((I : Instance) → next I ≡ Err number → longer I ≡ Err number)
    → and_then r next ≡ Err number → and_then r longer ≡ Err number
more_by (Ok I) next longer number later e = later I e
more_by (Err found) next longer number later e = e

pub refused_more : (before : Instance) (edits more : List Edit) (number : ℕ) → edited_all before edits ≡ Err number → edited_all before (edits ++ more) ≡ Err number
unfolding edited_all
refused_more before [] more number e = cc
refused_more before (edit ∷ edits) more number e =
    more_by (edited before edit) (λ after. edited_all after edits) (λ after. edited_all after (edits ++ more)) number (λ I. refused_more I edits more number) e

pub edited_all-lawful : (before : Instance) (edits : List Edit) (after : Instance) → IsLawful before → edited_all before edits ≡ Ok after → IsLawful after
unfolding edited_all
edited_all-lawful before [] after lawful e = let same : before ≡ after = cc in rw (← same) lawful
edited_all-lawful before (edit ∷ edits) after lawful e =
    let first = first_made (edited before edit) (λ next. edited_all next edits) after e in
    edited_all-lawful first.0 edits after (edited_lawful before edit first.0 lawful first.1) first.2
