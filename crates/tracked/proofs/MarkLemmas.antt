-- The list of what is marked, when one more is, and when none is.
use Rattle.std.proofs.Common.{◌≡◌, ℕ, ◌+◌, ◌<◌, List, [], ◌∷◌, length, sym, ap, subst, ◌∙◌, inl, inr, arith, Bool, true, false, cond, not}
use Rattle.std.specs.Prelude.{◌≢◌, ◌++◌, slice_index_or, slice_set, All, Any}
use Rattle.std.specs.List.{count_by}
use Rattle.std.proofs.lemmas.Bool.{cases_eq, true≢false}
use Rattle.std.proofs.lemmas.List.Elements.{All-push}
use Rattle.std.proofs.lemmas.List.Quantifiers.{all_pairs_push, Any-push}
use Rattle.std.proofs.lemmas.List.Sums.{sum_by-set}
use Rattle.std.proofs.lemmas.List.{length-append, length-set, get_or-set_same, get_or-set_other, get_or_append_left}
use Rattle.tracked.specs.Marks.{in_set, IsListOf}

-- one node more in a set is one less outside
count_by-marked : (set : List Bool) (v : ℕ) → v < length set → in_set set v ≡ false → count_by not (slice_set set v true) + 1 ≡ count_by not set
count_by-marked set v lt out =
    let marks : Bool → ℕ = λ b. cond (not b) 1 0 in
    omega (arith, ap marks out, sum_by-set marks set v true false lt)

-- what is listed is so still when the list is longer
still_listed : (list more : List ℕ) (k : ℕ) → Any (λ p. p ≡ k) list → Any (λ p. p ≡ k) (list ++ more)
still_listed list more k (place, p, lt, is, same) = (place, p, omega (arith, lt, length-append list more), get_or_append_left list more p place lt ∙ is, same)

module _ (set : List Bool) (list : List ℕ) (v : ℕ) (is : IsListOf set list) (node : v < length set) (out : in_set set v ≡ false) where
  set_kept : (w : ℕ) → in_set set w ≡ true → in_set (slice_set set v true) w ≡ true
  set_kept w h = elim (cases_eq w v) [
    | inl same ↦ subst (λ (q : ℕ). in_set (slice_set set v true) q ≡ true) (sym same) (get_or-set_same set v true false node)
    | inr other ↦ get_or-set_other set v w true false other ∙ h
  ]

  put_inside : All (λ w. in_set (slice_set set v true) w ≡ true) (list ++ v ∷ [])
  put_inside = All-push (λ w. in_set (slice_set set v true) w ≡ true) list v (λ k d lt. set_kept _ (is.inside k d lt)) (get_or-set_same set v true false node)

  put_listed : (w : ℕ) → in_set (slice_set set v true) w ≡ true → Any (λ p. p ≡ w) (list ++ v ∷ [])
  put_listed w h = elim (cases_eq w v) [
    | inl same ↦ Any-push (λ p. p ≡ w) list v (sym same)
    | inr other ↦ still_listed list (v ∷ []) w (is.listed w (sym (get_or-set_other set v w true false other) ∙ h))
  ]

  outside : (k d : ℕ) → k < length list → slice_index_or list k d ≢ v
  outside k d lt same = true≢false (sym (is.inside k d lt) ∙ ap (in_set set) same ∙ out)

  -- a node outside is marked and put at the end
  pub IsListOf-put : IsListOf (slice_set set v true) (list ++ v ∷ [])
  IsListOf-put = record {
    inside = put_inside;
    listed = put_listed;
    apart = all_pairs_push ◌≢◌ list v is.apart outside;
    room = omega (arith, is.room, count_by-marked set v node out, length-set set v true, length-append list (v ∷ []));
  }
