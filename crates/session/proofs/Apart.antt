-- Marks of different names, no more than may be.
use Rattle.std.proofs.Common.{◌≡◌, ◌≢◌, ℕ, suc, ◌<◌, ◌≤◌, inl, inr, Bool, true, false, if◌then◌else◌, ◌||◌, nat_lt, Option, None, Some, List, [], ◌∷◌, length, refl, sym, ap, ◌∙◌, arith, length-append}
use Rattle.std.specs.List.{All, AllPairs}
use Rattle.std.specs.Cmp.Lexicographic.{pointwise, same_text, other_text}
use Rattle.std.specs.Prelude.{nat_eq, nat_le}
use Rattle.std.proofs.lemmas.Bool.{cases_lt, leb-true, ltb-true}
use Rattle.std.proofs.lemmas.List.{length-set}
use Rattle.std.proofs.lemmas.List.Elements.{All-head, All-tail, All-weaker}
use Rattle.std.proofs.lemmas.List.Kept.{AllPairs-cons, AllPairs-filter}
use Rattle.session.specs.declared.marks.Mark.{Mark}
use Rattle.session.specs.declared.marks.TheConstants.{MARK_LIMIT}
use Rattle.session.specs.Marks.{has_name, marked, has_place, with_mark, place_of, up_to, AreMarks, HaveTwoNames}
use Rattle.session.proofs.Marked.{is_in, is_out}
use Rattle.session.proofs.Marking.{with_one}

same_name : (a b : List ℕ) (t : Bool) → pointwise nat_eq a b ≡ t → a ≡ b → t ≡ true
same_name a b true is same = refl
same_name a b false is same = absurd (other_text a b (sym is) same)

other_name : (a b : List ℕ) (t : Bool) → pointwise nat_eq a b ≡ t → a ≢ b → t ≡ false
other_name a b true is other = absurd (other (same_text a b (sym is)))
other_name a b false is other = refl

itself : (name : List ℕ) → pointwise nat_eq name name ≡ true
itself name = same_name name name (pointwise nat_eq name name) refl refl

-- the name's mark is found where it was put
found_by : (mark : Mark) (marks rest : List Mark) (name : List ℕ) (moment : ℕ) (b : Bool) → has_name mark name ≡ b → marked rest name ≡ Some moment
    → marked (if b then record { name = name; moment = moment } ∷ marks else mark ∷ rest) name ≡ Some moment
found_by mark marks rest name moment true is later = rw (itself name) refl
found_by mark marks rest name moment false is later = rw is later

pub found_again : (marks : List Mark) (name : List ℕ) (moment : ℕ) → marked (with_mark marks name moment) name ≡ Some moment
found_again [] name moment = rw (itself name) refl
found_again (mark ∷ marks) name moment = found_by mark marks (with_mark marks name moment) name moment (has_name mark name) refl (found_again marks name moment)

-- and no other one is moved
others_by : (mark : Mark) (marks rest : List Mark) (name other : List ℕ) (moment : ℕ) (b : Bool) → has_name mark name ≡ b → name ≢ other → marked rest other ≡ marked marks other
    → marked (if b then record { name = name; moment = moment } ∷ marks else mark ∷ rest) other ≡ marked (mark ∷ marks) other
others_by mark marks rest name other moment true is apart later =
    let first = other_name name other (pointwise nat_eq name other) refl apart in
    let same = same_text mark.name name (sym is) in
    let second : has_name mark other ≡ false = ap (λ letters. pointwise nat_eq letters other) same ∙ first in
    rw (first, second) refl
others_by mark marks rest name other moment false is apart later = ap (λ (o : Option ℕ). if has_name mark other then Some mark.moment else o) later

pub others_stay : (marks : List Mark) (name other : List ℕ) (moment : ℕ) → name ≢ other → marked (with_mark marks name moment) other ≡ marked marks other
others_stay [] name other moment apart = rw (other_name name other (pointwise nat_eq name other) refl apart) refl
others_stay (mark ∷ marks) name other moment apart = others_by mark marks (with_mark marks name moment) name other moment (has_name mark name) refl apart (others_stay marks name other moment apart)

-- names stay apart
module _ (mark : Mark) (marks : List Mark) where
  first_apart : AllPairs HaveTwoNames (mark ∷ marks) → All (HaveTwoNames mark) marks
  first_apart apart i d below = apart 0 (suc i) d (omega arith) (omega (arith, below))

  rest_apart : AllPairs HaveTwoNames (mark ∷ marks) → AllPairs HaveTwoNames marks
  rest_apart apart i j d less below = apart (suc i) (suc j) d (omega (arith, less)) (omega (arith, below))

apart_by : (mark : Mark) (marks rest : List Mark) (name : List ℕ) (moment : ℕ) (b : Bool) → has_name mark name ≡ b → AllPairs HaveTwoNames (mark ∷ marks) → (mark.name ≢ name → All (HaveTwoNames mark) rest) → AllPairs HaveTwoNames rest
    → AllPairs HaveTwoNames (if b then record { name = name; moment = moment } ∷ marks else mark ∷ rest)
apart_by mark marks rest name moment true is apart first later =
    let put : Mark = record { name = name; moment = moment } in
    let same = same_text mark.name name (sym is) in
    AllPairs-cons HaveTwoNames put marks (All-weaker (HaveTwoNames mark) (HaveTwoNames put) (λ m two e. two (same ∙ e)) marks (first_apart mark marks apart)) (rest_apart mark marks apart)
apart_by mark marks rest name moment false is apart first later = AllPairs-cons HaveTwoNames mark rest (first (other_text mark.name name (sym is))) later

pub put_apart : (marks : List Mark) (name : List ℕ) (moment : ℕ) → AllPairs HaveTwoNames marks → AllPairs HaveTwoNames (with_mark marks name moment)
put_apart [] name moment apart = λ i j d less below. absurd (omega (arith, less, below))
put_apart (mark ∷ marks) name moment apart =
    apart_by mark marks (with_mark marks name moment) name moment (has_name mark name) refl apart
    (λ two. with_one (HaveTwoNames mark) marks name moment (first_apart mark marks apart) two)
    (put_apart marks name moment (rest_apart mark marks apart))

-- and few
few_in : (marks : List Mark) (name : List ℕ) (moment : ℕ) → length marks ≤ MARK_LIMIT → has_place marks name ≡ true → length (with_mark marks name moment) ≤ MARK_LIMIT
few_in marks name moment few place = elim (cases_lt (place_of marks name) (length marks)) [
  | inl below ↦
      let put = ap length (is_in marks name moment below).1 in
      omega (arith, put, few, length-set marks (place_of marks name) (record { name = name; moment = moment }))
  | inr above ↦
      let out = is_out marks name moment above in
      let room : length marks < MARK_LIMIT = ltb-true (length marks) MARK_LIMIT (ap (λ b. b || nat_lt (length marks) MARK_LIMIT) (sym out.0) ∙ place) in
      let put = ap length out.1 in
      omega (arith, put, room, length-append marks (record { name = name; moment = moment } ∷ []))
]

length-up_to : (n : ℕ) (marks : List Mark) → length (up_to n marks) ≤ length marks
length-up_to n [] = omega arith
length-up_to n (mark ∷ marks) = shorter (nat_le mark.moment n) (length-up_to n marks)
  where
    shorter : (b : Bool) → length (up_to n marks) ≤ length marks → length (if b then mark ∷ up_to n marks else up_to n marks) ≤ suc (length marks)
    shorter true less = omega (arith, less)
    shorter false less = omega (arith, less)

pub none_at_first : AreMarks []
none_at_first = record { apart = λ i j d less below. absurd (omega (arith, less, below)); few = omega arith }

pub put_few : (marks : List Mark) (name : List ℕ) (moment : ℕ) → AreMarks marks → has_place marks name ≡ true → AreMarks (with_mark marks name moment)
put_few marks name moment are place = record { apart = put_apart marks name moment are.apart; few = few_in marks name moment are.few place }

pub kept_few : (marks : List Mark) (last : ℕ) → AreMarks marks → AreMarks (up_to last marks)
kept_few marks last are = record {
  apart = AllPairs-filter HaveTwoNames (λ mark. nat_le mark.moment last) marks are.apart;
  few = omega (arith, length-up_to last marks, are.few);
}

-- no other mark has the name
none_other : (mark : Mark) (marks : List Mark) (name : List ℕ) → All (HaveTwoNames mark) marks → has_name mark name ≡ true → marked marks name ≡ None
none_other mark [] name apart is = refl
none_other mark (next ∷ marks) name apart is =
    let mine : mark.name ≡ name = same_text mark.name name (sym is) in
    let theirs : has_name next name ≡ false = other_name next.name name (pointwise nat_eq next.name name) refl (λ e. All-head (HaveTwoNames mark) next marks apart (mine ∙ sym e)) in
    rw theirs (none_other mark marks name (All-tail (HaveTwoNames mark) next marks apart) is)

-- a mark that is kept stood there before, on a moment that stays
module _ (mark : Mark) (marks rest : List Mark) (name : List ℕ) (last i : ℕ) (apart : AllPairs HaveTwoNames (mark ∷ marks)) (later : marked rest name ≡ Some i → (marked marks name ≡ Some i) × (i ≤ last)) where
  kept_first : (b : Bool) → has_name mark name ≡ b → mark.moment ≤ last → (if b then Some mark.moment else marked rest name) ≡ Some i → ((if b then Some mark.moment else marked marks name) ≡ Some i) × (i ≤ last)
  kept_first true is below found = (found, let same : mark.moment ≡ i = cc in omega (arith, below, same))
  kept_first false is below found = later found

  dropped_first : (b : Bool) → has_name mark name ≡ b → marked rest name ≡ Some i → ((if b then Some mark.moment else marked marks name) ≡ Some i) × (i ≤ last)
  dropped_first true is found =
      let there = (later found).0 in
      let none = none_other mark marks name (first_apart mark marks apart) is in
      absurd cc
  dropped_first false is found = later found

  kept_by : (a : Bool) → nat_le mark.moment last ≡ a → marked (if a then mark ∷ rest else rest) name ≡ Some i → (marked (mark ∷ marks) name ≡ Some i) × (i ≤ last)
  kept_by true below found = kept_first (has_name mark name) refl (leb-true mark.moment last below) found
  kept_by false above found = dropped_first (has_name mark name) refl found

pub kept_where : (marks : List Mark) (name : List ℕ) (last i : ℕ) → AreMarks marks → marked (up_to last marks) name ≡ Some i → (marked marks name ≡ Some i) × (i ≤ last)
kept_where marks name last i are = by marks are.apart
  where
    by : (marks : List Mark) → AllPairs HaveTwoNames marks → marked (up_to last marks) name ≡ Some i → (marked marks name ≡ Some i) × (i ≤ last)
    by [] apart found =
        let no : ◌≡◌ {A = Option ℕ} None (Some i) = found in
        absurd cc
    by (mark ∷ marks) apart found = kept_by mark marks (up_to last marks) name last i apart (by marks (rest_apart mark marks apart)) (nat_le mark.moment last) refl found
