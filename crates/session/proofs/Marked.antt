-- Where the mark of a name stands.
use Rattle.std.proofs.Common.{◌≡◌, inl, inr, ℕ, suc, ◌<◌, ◌≤◌, Bool, true, false, if◌then◌else◌, Some, is_some, List, [], ◌∷◌, ◌++◌, length, set, refl, ap, arith}
use Rattle.std.proofs.lemmas.Bool.{cases_lt, false≢true}
use Rattle.session.specs.declared.marks.Mark.{Mark}
use Rattle.session.specs.declared.marks.TheConstants.{MARK_LIMIT}
use Rattle.session.specs.Marks.{has_name, marked, has_place, with_mark, place_of}

abbrev the_mark : List ℕ → ℕ → Mark
the_mark name moment = record { name = name; moment = moment }

module _ (mark : Mark) (marks : List Mark) (name : List ℕ) (moment : ℕ) where
  in_by : (b : Bool) → (place_of marks name < length marks → (is_some (marked marks name) ≡ true) × (set marks (place_of marks name) (the_mark name moment) ≡ with_mark marks name moment))
      → (if b then 0 else suc (place_of marks name)) < suc (length marks)
      → (is_some (if b then Some mark.moment else marked marks name) ≡ true)
      × (set (mark ∷ marks) (if b then 0 else suc (place_of marks name)) (the_mark name moment) ≡ (if b then the_mark name moment ∷ marks else mark ∷ with_mark marks name moment))
  in_by true later below = (refl, refl)
  in_by false later below = let rest = later (omega (arith, below)) in (rest.0, ap (λ ms. mark ∷ ms) rest.1)

  out_by : (b : Bool) → (length marks ≤ place_of marks name → (is_some (marked marks name) ≡ false) × (marks ++ the_mark name moment ∷ [] ≡ with_mark marks name moment))
      → suc (length marks) ≤ (if b then 0 else suc (place_of marks name))
      → (is_some (if b then Some mark.moment else marked marks name) ≡ false)
      × (mark ∷ marks ++ the_mark name moment ∷ [] ≡ (if b then the_mark name moment ∷ marks else mark ∷ with_mark marks name moment))
  out_by true later above = absurd (omega (arith, above))
  out_by false later above = let rest = later (omega (arith, above)) in (rest.0, ap (λ ms. mark ∷ ms) rest.1)

-- where a mark has the name
pub is_in : (marks : List Mark) (name : List ℕ) (moment : ℕ) → place_of marks name < length marks → (is_some (marked marks name) ≡ true) × (set marks (place_of marks name) (the_mark name moment) ≡ with_mark marks name moment)
is_in [] name moment below = absurd (omega (arith, below))
is_in (mark ∷ marks) name moment below = in_by mark marks name moment (has_name mark name) (is_in marks name moment) below

-- where none has it
pub is_out : (marks : List Mark) (name : List ℕ) (moment : ℕ) → length marks ≤ place_of marks name → (is_some (marked marks name) ≡ false) × (marks ++ the_mark name moment ∷ [] ≡ with_mark marks name moment)
is_out [] name moment above = (refl, refl)
is_out (mark ∷ marks) name moment above = out_by mark marks name moment (has_name mark name) (is_out marks name moment) above

module _ (marks : List Mark) (name : List ℕ) (moment i : ℕ) (is : i ≡ place_of marks name) where
  pub there_is_place : i < length marks → true ≡ has_place marks name
  there_is_place below = rw ((is_in marks name moment (rw (← is) below)).0) refl

  pub put_there : i < length marks → set marks i (the_mark name moment) ≡ with_mark marks name moment
  put_there below = rw is ((is_in marks name moment (rw (← is) below)).1)

  pub no_place : length marks ≤ i → length marks ≡ MARK_LIMIT → false ≡ has_place marks name
  no_place above full = rw ((is_out marks name moment (rw (← is) above)).0, full) refl

  pub put_last : length marks ≤ i → marks ++ the_mark name moment ∷ [] ≡ with_mark marks name moment
  put_last above = (is_out marks name moment (rw (← is) above)).1

-- an index at which nothing is found
pub not_within : (i n : ℕ) → (i < n → false ≡ true) → n ≤ i
not_within i n never = elim (cases_lt i n) [
  | inl below ↦ absurd (false≢true (never below))
  | inr above ↦ above
]
