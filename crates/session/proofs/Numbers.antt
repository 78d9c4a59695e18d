-- The numbers of the values at which two lists differ, sought among indices, and listed in rising order.
use Rattle.std.proofs.Common.{◌≡◌, ◌≢◌, ℕ, zero, suc, ◌+◌, ◌-◌, ◌<◌, ◌≤◌, ◌⊎◌, inl, inr, eqb, List, [], ◌∷◌, ◌++◌, length, get_or, sym, subst, ◌∙◌, arith}
use Rattle.std.specs.List.{All, AllPairs, Any}
use Rattle.std.specs.List.Sorted.{IsPermutation, IsSorted}
use Rattle.std.specs.Ordering.{nat_cmp}
use Rattle.std.proofs.lemmas.Bool.{cases_lt}
use Rattle.std.proofs.lemmas.Bool.Decides.{Decides-eqb, nat_tests}
use Rattle.std.proofs.lemmas.List.{get_or_default, get_or_append_left, length_push}
use Rattle.std.proofs.lemmas.List.Elements.{All-push}
use Rattle.std.proofs.lemmas.List.Kept.{AllPairs-from_increasing}
use Rattle.std.proofs.lemmas.List.Quantifiers.{Any-push, all_pairs_push}
use Rattle.std.proofs.lemmas.List.Sorted.{All-permutation, Contains-permutation, IsNonDecreasingBy-from_sort}
use Rattle.std.proofs.lemmas.Map.Keys.{IsDistinct-IsPermutation, IsStrictlyIncreasing-from_distinct}
use Rattle.std.proofs.lemmas.Map.Made.{IsDistinct-from_AllPairs}
use Rattle.flow_solver.specs.Touched.{NameChanges, AgreeAt}
use Rattle.session.specs.Places.{AreFound, DifferAt}
use Rattle.session.proofs.Found.{found_to, found_more}

-- what is named is named after a push and in another order
any_more : (n : ℕ) (numbers : List ℕ) (m : ℕ) → Any (λ p. p ≡ n) numbers → Any (λ p. p ≡ n) (numbers ++ m ∷ [])
any_more n numbers m (i, p, below, is_p, same) =
    (i, p, omega (arith, length_push numbers m), get_or_append_left numbers (m ∷ []) p i below ∙ is_p, same)

any_permutation : (n : ℕ) (xs ys : List ℕ) → IsPermutation xs ys → Any (λ p. p ≡ n) xs → Any (λ p. p ≡ n) ys
any_permutation n xs ys permutation (i, p, below, is_p, same) =
    let there = Contains-permutation xs ys p permutation (i, below, is_p) in
    (there.0, p, there.1, there.2, same)

module _ {X : Type 0} (first : ℕ) (indices : List ℕ) (xs ys : List X) where
  -- the numbers of the first i indices at which the lists differ
  pub record AreNumbered (numbers : List ℕ) (i : ℕ) : Type 0 where
    pub few : length numbers ≤ i
    pub differ : All (DifferAt xs ys) numbers
    pub sought : All (λ n. (j : ℕ) × (j < i) × (get_or indices j 0 + 1 ≡ n + first)) numbers
    pub apart : AllPairs ◌≢◌ numbers
    pub named : (j k : ℕ) → j < i → k < length xs → get_or indices j 0 ≡ k + first → Any (λ n. n ≡ k + 1) numbers ⊎ AgreeAt xs ys k

  sought_again : (numbers : List ℕ) (i : ℕ) → AreNumbered numbers i → All (λ n. (j : ℕ) × (j < i + 1) × (get_or indices j 0 + 1 ≡ n + first)) numbers
  sought_again numbers i numbered a d below =
      let (j, before, at) = numbered.sought a d below in
      (j, omega arith, at)

  pub none_more : (numbers : List ℕ) (i : ℕ) → AreNumbered numbers i → ((k : ℕ) → k < length xs → get_or indices i 0 ≡ k + first → AgreeAt xs ys k) → AreNumbered numbers (i + 1)
  none_more numbers i numbered agree = record {
    few = omega (arith, numbered.few);
    differ = numbered.differ;
    sought = sought_again numbers i numbered;
    apart = numbered.apart;
    named = λ j k below inside at. elim (cases_lt j i) [
      | inr from ↦ let last : j ≡ i = omega arith in inr (agree k inside (subst (λ j. get_or indices j 0 ≡ k + first) last at))
      | inl before ↦ numbered.named j k before inside at
    ];
  }

  pub one_more : (numbers : List ℕ) (i number : ℕ) → AllPairs ◌≢◌ indices → i < length indices → AreNumbered numbers i → DifferAt xs ys number → get_or indices i 0 + 1 ≡ number + first → AreNumbered (numbers ++ number ∷ []) (i + 1)
  one_more numbers i number apart within numbered differ is_index = record {
    few = omega (arith, numbered.few, length_push numbers number);
    differ = All-push (DifferAt xs ys) numbers number numbered.differ differ;
    sought = All-push (λ n. (j : ℕ) × (j < i + 1) × (get_or indices j 0 + 1 ≡ n + first)) numbers number (sought_again numbers i numbered) (i, omega arith, is_index);
    apart = all_pairs_push ◌≢◌ numbers number numbered.apart (λ a d below same.
        let (j, before, at) = numbered.sought a d below in
        apart j i 0 before within (omega (arith, at, is_index, same)));
    named = λ j k below inside at. elim (cases_lt j i) [
      | inr from ↦
          let last : j ≡ i = omega arith in
          let here : get_or indices i 0 ≡ k + first = subst (λ j. get_or indices j 0 ≡ k + first) last at in
          inl (Any-push (λ n. n ≡ k + 1) numbers number (omega arith))
      | inl before ↦ elim (numbered.named j k before inside at) [
        | inl named ↦ inl (any_more (k + 1) numbers number named)
        | inr agree ↦ inr agree
      ]
    ];
  }

  pub numbers_name : (numbers : List ℕ) → AreNumbered numbers (length indices) → NameChanges first indices xs ys → NameChanges 1 numbers xs ys
  numbers_name numbers numbered names k inside = elim (names k inside) [
    | inl (j, p, below, is_p, same) ↦ numbered.named j k below inside (get_or_default indices j 0 p below ∙ is_p ∙ same)
    | inr agree ↦ inr agree
  ]

-- the numbers of all values at which the lists differ, each below the next
pub record AreInOrder {X : Type 0} (numbers : List ℕ) (xs ys : List X) : Type 0 where
  pub rising : AllPairs ◌<◌ numbers
  pub differ : All (DifferAt xs ys) numbers
  pub names : NameChanges 1 numbers xs ys

-- numbers that differ, each once, in order
module _ {X : Type 0} (numbers sorted : List ℕ) (xs ys : List X) (permutation : IsPermutation numbers sorted) where
  names_permuted : NameChanges 1 numbers xs ys → NameChanges 1 sorted xs ys
  names_permuted names k inside = elim (names k inside) [
    | inl named ↦ inl (any_permutation (k + 1) numbers sorted permutation named)
    | inr agree ↦ inr agree
  ]

  rising_sorted : AllPairs ◌≢◌ numbers → IsSorted nat_cmp sorted → AllPairs ◌<◌ sorted
  rising_sorted apart up =
      let distinct = IsDistinct-IsPermutation eqb (λ x y. grind (arith, nat_tests)) numbers sorted permutation (IsDistinct-from_AllPairs Decides-eqb numbers apart) in
      AllPairs-from_increasing sorted (IsStrictlyIncreasing-from_distinct sorted (IsNonDecreasingBy-from_sort (λ (n : ℕ). n) sorted up) distinct)

  pub in_order : (items : List ℕ) → All (DifferAt xs ys) numbers → NameChanges 1 numbers xs ys → AllPairs ◌≢◌ numbers → IsSorted nat_cmp sorted → items ≡ sorted → AreInOrder items xs ys
  in_order items differ names apart up same = subst (λ (ns : List ℕ). AreInOrder ns xs ys) (sym same) (record {
    rising = rising_sorted apart up;
    differ = All-permutation (DifferAt xs ys) numbers sorted permutation differ;
    names = names_permuted names;
  })

module _ {X : Type 0} (numbers : List ℕ) (xs ys : List X) where
  -- the last of the first i numbers
  abbrev last : ℕ → ℕ
  last zero = 0
  last (suc i) = get_or numbers i 0

  -- the first i numbers are listed
  pub record AreListed (found : List (ℕ × X)) (i : ℕ) : Type 0 where
    pub few : length found ≤ i
    pub front : AreFound found xs ys (last i)

  module _ (fewer : length xs ≤ length ys) (order : AreInOrder numbers xs ys) where
    last_inside : (i : ℕ) → i ≤ length numbers → last i ≤ length xs
    last_inside zero within = omega arith
    last_inside (suc i) within = (order.differ i 0 (omega arith)).1

    last_below : (i j : ℕ) → i ≤ j → j < length numbers → last i < get_or numbers j 0
    last_below zero j from below = omega (arith, (order.differ j 0 below).0)
    last_below (suc i) j from below = order.rising i j 0 (omega arith) below

    up_to_last : (i j : ℕ) → j < i → i ≤ length numbers → get_or numbers j 0 ≤ last i
    up_to_last zero j before within = absurd (omega arith)
    up_to_last (suc i) j before within = elim (cases_lt j i) [
      | inl below ↦ omega (arith, order.rising j i 0 below (omega arith))
      | inr from ↦ let same : j ≡ i = omega arith in subst (λ i. get_or numbers j 0 ≤ get_or numbers i 0) same (omega arith)
    ]

    -- from the last number to the next one the lists agree
    agree_between : (i : ℕ) → i ≤ length numbers → (k : ℕ) → last i ≤ k → k < length xs → (i < length numbers → k + 1 < get_or numbers i 0) → AgreeAt xs ys k
    agree_between i within k from inside next = elim (order.names k inside) [
      | inl (j, p, below, is_p, same) ↦
          let at : get_or numbers j 0 ≡ k + 1 = get_or_default numbers j 0 p below ∙ is_p ∙ same in
          elim (cases_lt j i) [
            | inl earlier ↦ absurd (omega (arith, up_to_last i j earlier within))
            | inr later ↦
                let rises : get_or numbers i 0 ≤ get_or numbers j 0 = up_to_last (suc j) i (omega arith) (omega arith) in
                absurd (omega (arith, rises, next (omega arith)))
          ]
      | inr agree ↦ agree
    ]

    pub listed_more : (found : List (ℕ × X)) (i n : ℕ) (x : X) → AreListed found i → i < length numbers → n ≡ get_or numbers i 0 → x ≡ get_or xs (n - 1) x → AreListed (found ++ (n, x) ∷ []) (i + 1)
    listed_more found i n x listed below is_n is_x =
        let (some, inside, inside_ys, differs) = subst (DifferAt xs ys) (sym is_n) (order.differ i 0 below) in
        let k : ℕ = n - 1 in
        let number : k + 1 ≡ get_or numbers i 0 = omega arith in
        let next : suc i ≡ i + 1 = omega arith in
        let is_number : k + 1 ≡ n = omega arith in
        let y : X = get_or ys k x in
        let before = found_to found xs ys fewer (k - last i) (last i) k (omega (arith, last_below i i)) (omega arith) listed.front (λ j from to. agree_between i (omega arith) j from (omega arith) (λ b. omega arith)) in
        let after = found_more found xs ys k x y (omega arith) fewer before is_x (get_or_default ys k x y (omega arith)) (λ same. differs x (sym is_x ∙ same)) in
        record {
          few = omega (arith, listed.few, length_push found (n, x));
          front = subst (λ (j : ℕ). AreFound (found ++ (n, x) ∷ []) xs ys (last j)) next (subst (λ (m : ℕ). AreFound (found ++ (n, x) ∷ []) xs ys m) number (subst (λ (m : ℕ). AreFound (found ++ (m, x) ∷ []) xs ys (k + 1)) is_number after));
        }

    pub all_listed : (found : List (ℕ × X)) (i : ℕ) → AreListed found i → i ≡ length numbers → AreFound found xs ys (length xs)
    all_listed found i listed all =
        let within = last_inside i (omega arith) in
        found_to found xs ys fewer (length xs - last i) (last i) (length xs) (omega arith) (omega arith) listed.front (λ k from inside. agree_between i (omega arith) k from inside (λ below. absurd (omega arith)))
