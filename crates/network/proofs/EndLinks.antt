-- The lists of ends when an arc is added at the end.
use Rattle.std.proofs.Common.{slice_get, inl, inr, ◌⊎◌, ◌≡◌, ◌≢◌, ℕ, zero, suc, ◌+◌, ◌-◌, ◌*◌, ◌/◌, ◌%◌, ◌<◌, ◌≤◌, ◌==◌, Bool, true, false, true≢false, if◌then◌else◌, List, [], ◌∷◌, ◌++◌, length, set, slice_index_or, Option, Some, None, refl, sym, ap, ◌∙◌, arith, eqb-true, eq-eqb, get_or-set_same, get_or-set_other, length-set}
use Rattle.std.proofs.lemmas.List.{get_or_push, get_or_append_left, length_push}
use Rattle.std.proofs.lemmas.Option.{slice_get-get_or}
use Rattle.std.proofs.lemmas.Bool.{cases_lt}
use Rattle.std.proofs.lemmas.Bool.Decides.{eqb_tells}
use Rattle.std.proofs.Math.Logic.{⊎_elim}
use Rattle.dimacs_text.specs.declared.problem.ArcRow.{ArcRow}
use Rattle.network.specs.Ends.{node_of, end_node, last_end_below, AreEndLists, AddsEnd, RemovesEnd}
use Rattle.network.proofs.EndLemmas.{no_arc, end_node-tail, end_node-head}

-- the ends before are where they were
end_node-kept : (arcs : List ArcRow) (row : ArcRow) (end : ℕ) → end < 2 * length arcs → end_node (arcs ++ row ∷ []) end ≡ end_node arcs end
end_node-kept arcs row end h =
    let k : end / 2 < length arcs = omega arith in
    let l = length_push arcs row in
    ap (λ (o : Option ArcRow). node_of o (end % 2))
    (slice_get-get_or (arcs ++ row ∷ []) (end / 2) no_arc (omega arith) ∙ ap Some (get_or_append_left arcs (row ∷ []) no_arc (end / 2) k) ∙ sym (slice_get-get_or arcs (end / 2) no_arc k))

last_kept : (arcs : List ArcRow) (row : ArcRow) (v n : ℕ) → n ≤ 2 * length arcs → last_end_below (arcs ++ row ∷ []) v n ≡ last_end_below arcs v n
last_kept arcs row v zero h = refl
last_kept arcs row v (suc end) h =
    let before = last_kept arcs row v end (omega arith) in
    let same = end_node-kept arcs row end h in
    λ i. if same i == v then Some end else before i

-- the two ends of the new arc
new_tail : (arcs : List ArcRow) (row : ArcRow) → end_node (arcs ++ row ∷ []) (2 * length arcs) ≡ row.tail
new_tail arcs row =
    let l = length_push arcs row in
    end_node-tail (arcs ++ row ∷ []) (length arcs) (omega arith) ∙ ap (λ (a : ArcRow). a.tail) (get_or_push arcs row no_arc (length arcs) refl)

new_head : (arcs : List ArcRow) (row : ArcRow) → end_node (arcs ++ row ∷ []) (suc (2 * length arcs)) ≡ row.head
new_head arcs row =
    let l = length_push arcs row in
    end_node-head (arcs ++ row ∷ []) (length arcs) (omega arith) ∙ ap (λ (a : ArcRow). a.head) (get_or_push arcs row no_arc (length arcs) refl)

-- the greatest end at a node, once the new arc's tail counts, and its head
with_tail : (arcs : List ArcRow) (row : ArcRow) (v : ℕ) → last_end_below (arcs ++ row ∷ []) v (suc (2 * length arcs)) ≡ (if row.tail == v then Some (2 * length arcs) else last_end_below arcs v (2 * length arcs))
with_tail arcs row v =
    let before = last_kept arcs row v (2 * length arcs) (omega arith) in
    let same = new_tail arcs row in
    λ i. if same i == v then Some (2 * length arcs) else before i

with_head : (arcs : List ArcRow) (row : ArcRow) (v : ℕ) → last_end_below (arcs ++ row ∷ []) v (suc (suc (2 * length arcs))) ≡ (if row.head == v then Some (suc (2 * length arcs)) else (if row.tail == v then Some (2 * length arcs) else last_end_below arcs v (2 * length arcs)))
with_head arcs row v =
    let before = with_tail arcs row v in
    let same = new_head arcs row in
    λ i. if same i == v then Some (suc (2 * length arcs)) else before i

-- a written entry of the first ends
written : (first : List (Option ℕ)) (u v : ℕ) (o : Option ℕ) → 1 ≤ u → u ≤ length first → 1 ≤ v → slice_index_or (set first (u - 1) o) (v - 1) None ≡ (if u == v then o else slice_index_or first (v - 1) None)
written first u v o low high low' = go (u == v) refl
  where
    go : (b : Bool) → (u == v) ≡ b → slice_index_or (set first (u - 1) o) (v - 1) None ≡ (if b then o else slice_index_or first (v - 1) None)
    go true e =
        let is : v - 1 ≡ u - 1 = omega (arith, eqb-true u v e) in
        let lt : u - 1 < length first = omega arith in
        rw is (get_or-set_same first (u - 1) o None lt)
    go false e =
        let apart : u ≢ v = λ is. true≢false (sym (eq-eqb u v is) ∙ e) in
        let ne : v - 1 ≢ u - 1 = omega arith in
        get_or-set_other first (u - 1) (v - 1) o None ne

-- the lists of the old arcs with the two ends of the new one are those of all arcs
pub lists_push : (nodes : ℕ) (arcs : List ArcRow) (row : ArcRow) (first next first1 next1 first2 next2 : List (Option ℕ)) → AreEndLists nodes arcs first next
    → (1 ≤ row.tail) × (row.tail ≤ nodes) → (1 ≤ row.head) × (row.head ≤ nodes)
    → AddsEnd first next row.tail (2 * length arcs) first1 next1 → AddsEnd first1 next1 row.head (suc (2 * length arcs)) first2 next2
    → AreEndLists nodes (arcs ++ row ∷ []) first2 next2
lists_push nodes arcs row first next first1 next1 first2 next2 lists tail head one two =
    let m = 2 * length arcs in
    let long1 : length first1 ≡ nodes = ap length one.heads ∙ length-set first (row.tail - 1) (Some m) ∙ lists.first_len in
    let long2 : length first2 ≡ nodes = ap length two.heads ∙ length-set first1 (row.head - 1) (Some (suc m)) ∙ long1 in
    let count1 : length next1 ≡ m + 1 = ap length one.tails ∙ length_push next _ ∙ ap (λ (k : ℕ). k + 1) lists.next_len in
    let count2 : length next2 ≡ m + 1 + 1 = ap length two.tails ∙ length_push next1 _ ∙ ap (λ (k : ℕ). k + 1) count1 in
    let more = length_push arcs row in
    let all : 2 * length (arcs ++ row ∷ []) ≡ suc (suc m) = omega arith in
    let heads1 : (v : ℕ) → 1 ≤ v → slice_index_or first1 (v - 1) None ≡ (if row.tail == v then Some m else slice_index_or first (v - 1) None) =
    λ v l. rw one.heads (written first row.tail v (Some m) tail.0 (omega (arith, lists.first_len)) l) in
    let heads2 : (v : ℕ) → 1 ≤ v → slice_index_or first2 (v - 1) None ≡ (if row.head == v then Some (suc m) else slice_index_or first1 (v - 1) None) =
    λ v l. rw two.heads (written first1 row.head v (Some (suc m)) head.0 (omega arith) l) in
    record {
      first_len = long2;
      next_len = omega arith;
      first_is = λ v l h.
          heads2 v l ∙ ap (λ (o : Option ℕ). if row.head == v then Some (suc m) else o) (heads1 v l ∙ ap (λ (o : Option ℕ). if row.tail == v then Some m else o) (lists.first_is v l h))
          ∙ sym (with_head arcs row v) ∙ ap (last_end_below (arcs ++ row ∷ []) v) (sym all);
      next_is = λ end h.
          let arcs' = arcs ++ row ∷ [] in
          let x1 = slice_index_or first (row.tail - 1) None in
          let x2 = slice_index_or first1 (row.head - 1) None in
          let read = ap (λ (l : List (Option ℕ)). slice_index_or l end None) two.tails in
          let read1 = ap (λ (l : List (Option ℕ)). slice_index_or l end None) one.tails in
          ⊎_elim
          (λ old.
          let kept = end_node-kept arcs row end old in
          read ∙ get_or_append_left next1 (x2 ∷ []) None end (omega arith) ∙ read1 ∙ get_or_append_left next (x1 ∷ []) None end (omega (arith, lists.next_len)) ∙ lists.next_is end old
          ∙ ap (λ (u : ℕ). last_end_below arcs u end) (sym kept) ∙ sym (last_kept arcs row (end_node arcs' end) end (omega arith)))
          (λ new.
          ⊎_elim
          (λ at_tail.
          let is : end ≡ m = omega arith in
          read ∙ get_or_append_left next1 (x2 ∷ []) None end (omega arith) ∙ read1 ∙ get_or_push next x1 None end (omega (arith, lists.next_len)) ∙ lists.first_is row.tail tail.0 tail.1
          ∙ sym (last_kept arcs row row.tail m (omega arith)) ∙ (λ i. last_end_below arcs' ((sym (new_tail arcs row) ∙ ap (end_node arcs') (sym is)) i) (sym is i)))
          (λ at_head.
          let is : end ≡ suc m = omega arith in
          read ∙ get_or_push next1 x2 None end (omega arith) ∙ heads1 row.head head.0 ∙ ap (λ (o : Option ℕ). if row.tail == row.head then Some m else o) (lists.first_is row.head head.0 head.1)
          ∙ sym (with_tail arcs row row.head) ∙ (λ i. last_end_below arcs' ((sym (new_head arcs row) ∙ ap (end_node arcs') (sym is)) i) (sym is i)))
          (cases_lt end (m + 1)))
          (cases_lt end m);
    }

removed : (arcs : List ArcRow) (row : ArcRow) (v : ℕ) (one two old : Option ℕ)
    → one ≡ (if row.tail == row.head then Some (2 * length arcs) else last_end_below arcs row.head (2 * length arcs)) → two ≡ last_end_below arcs row.tail (2 * length arcs)
    → old ≡ (if row.head == v then Some (suc (2 * length arcs)) else (if row.tail == v then Some (2 * length arcs) else last_end_below arcs v (2 * length arcs)))
    → (b c : Bool) → (row.tail == v) ≡ b → (row.head == v) ≡ c → (if b then two else (if c then one else old)) ≡ last_end_below arcs v (2 * length arcs)
removed arcs row v one two old o t k true c e h = t ∙ ap (λ (u : ℕ). last_end_below arcs u (2 * length arcs)) (eqb-true row.tail v e)
removed arcs row v one two old o t k false true e h =
    let is = eqb-true row.head v h in
    let apart : (row.tail == row.head) ≡ false = ap (λ (u : ℕ). row.tail == u) is ∙ e in
    o ∙ (λ i. if apart i then Some (2 * length arcs) else last_end_below arcs (is i) (2 * length arcs))
removed arcs row v one two old o t k false false e h =
    k ∙ (λ i. if h i then Some (suc (2 * length arcs)) else (if e i then Some (2 * length arcs) else last_end_below arcs v (2 * length arcs)))

-- and those of all arcs but the last, once its two ends are taken off
pub lists_pop : (nodes : ℕ) (arcs : List ArcRow) (row : ArcRow) (first next first1 next1 first2 next2 : List (Option ℕ)) → AreEndLists nodes (arcs ++ row ∷ []) first next
    → (1 ≤ row.tail) × (row.tail ≤ nodes) → (1 ≤ row.head) × (row.head ≤ nodes)
    → RemovesEnd first next row.head first1 next1 → RemovesEnd first1 next1 row.tail first2 next2
    → AreEndLists nodes arcs first2 next2
lists_pop nodes arcs row first next first1 next1 first2 next2 lists tail head one two =
    let arcs' = arcs ++ row ∷ [] in
    let m = 2 * length arcs in
    let more = length_push arcs row in
    let long1 : length first1 ≡ nodes = ap length one.heads ∙ length-set first (row.head - 1) one.before ∙ lists.first_len in
    let long2 : length first2 ≡ nodes = ap length two.heads ∙ length-set first1 (row.tail - 1) two.before ∙ long1 in
    let counts1 = ap length one.tails ∙ length_push next1 one.before in
    let counts2 = ap length two.tails ∙ length_push next2 two.before in
    let count1 : length next1 ≡ suc m = omega (arith, lists.next_len) in
    let count2 : length next2 ≡ m = omega arith in
    let read1 : (end : ℕ) → end < suc m → slice_index_or next1 end None ≡ slice_index_or next end None =
    λ end h. sym (get_or_append_left next1 (one.before ∷ []) None end (omega arith)) ∙ ap (λ (l : List (Option ℕ)). slice_index_or l end None) (sym one.tails) in
    let read2 : (end : ℕ) → end < m → slice_index_or next2 end None ≡ slice_index_or next1 end None =
    λ end h. sym (get_or_append_left next2 (two.before ∷ []) None end (omega arith)) ∙ ap (λ (l : List (Option ℕ)). slice_index_or l end None) (sym two.tails) in
    let before_head : one.before ≡ (if row.tail == row.head then Some m else last_end_below arcs row.head m) =
    sym (get_or_push next1 one.before None (suc m) count1) ∙ ap (λ (l : List (Option ℕ)). slice_index_or l (suc m) None) (sym one.tails)
    ∙ lists.next_is (suc m) (omega arith) ∙ ap (λ (u : ℕ). last_end_below arcs' u (suc m)) (new_head arcs row) ∙ with_tail arcs row row.head in
    let before_tail : two.before ≡ last_end_below arcs row.tail m =
    sym (get_or_push next2 two.before None m count2) ∙ ap (λ (l : List (Option ℕ)). slice_index_or l m None) (sym two.tails) ∙ read1 m (omega arith)
    ∙ lists.next_is m (omega arith) ∙ ap (λ (u : ℕ). last_end_below arcs' u m) (new_tail arcs row) ∙ last_kept arcs row row.tail m (omega arith) in
    record {
      first_len = long2;
      next_len = count2;
      first_is = λ v l h.
          let all : 2 * length arcs' ≡ suc (suc m) = omega arith in
          let old = lists.first_is v l h ∙ ap (last_end_below arcs' v) all ∙ with_head arcs row v in
          let heads1 : slice_index_or first1 (v - 1) None ≡ (if row.head == v then one.before else slice_index_or first (v - 1) None) = rw one.heads (written first row.head v one.before head.0 (omega (arith, lists.first_len)) l) in
          let heads2 : slice_index_or first2 (v - 1) None ≡ (if row.tail == v then two.before else slice_index_or first1 (v - 1) None) = rw two.heads (written first1 row.tail v two.before tail.0 (omega arith) l) in
          heads2 ∙ ap (λ (o : Option ℕ). if row.tail == v then two.before else o) heads1
          ∙ removed arcs row v one.before two.before (slice_index_or first (v - 1) None) before_head before_tail old (row.tail == v) (row.head == v) refl refl;
      next_is = λ end h.
          read2 end h ∙ read1 end (omega arith) ∙ lists.next_is end (omega arith) ∙ ap (λ (u : ℕ). last_end_below arcs' u end) (end_node-kept arcs row end h) ∙ last_kept arcs row (end_node arcs end) end (omega arith);
    }

-- ---- arcs with the same ends

module _ (arcs arcs' : List ArcRow) (same : (end : ℕ) → end_node arcs' end ≡ end_node arcs end) where
  last_same : (v n : ℕ) → last_end_below arcs' v n ≡ last_end_below arcs v n
  last_same v zero = refl
  last_same v (suc end) = let before = last_same v end in let here = same end in (λ i. if here i == v then Some end else before i)

  pub lists_same : (nodes : ℕ) (first next : List (Option ℕ)) → length arcs' ≡ length arcs → AreEndLists nodes arcs first next → AreEndLists nodes arcs' first next
  lists_same nodes first next long lists = record {
    first_len = lists.first_len;
    next_len = omega (arith, lists.next_len);
    first_is = λ v l h. lists.first_is v l h ∙ sym (last_same v (2 * length arcs)) ∙ ap (λ (k : ℕ). last_end_below arcs' v (2 * k)) (sym long);
    next_is = λ end h. lists.next_is end (omega arith) ∙ sym (last_same (end_node arcs end) end) ∙ ap (λ (u : ℕ). last_end_below arcs' u end) (sym (same end));
  }

pub slice_get-set_other : {X : Type 0} (l : List X) (i j : ℕ) (a : X) → j ≢ i → slice_get (set l i a) j ≡ slice_get l j
slice_get-set_other (x ∷ l) zero zero a ne = absurd (ne refl)
slice_get-set_other (x ∷ l) (suc i) (suc j) a ne = slice_get-set_other l i j a (λ e. ne (ap suc e))
slice_get-set_other _ _ _ a ne = refl

-- a row with the ends of the one that it replaces
pub end_node-set : (arcs : List ArcRow) (k : ℕ) (row : ArcRow) → k < length arcs → row.tail ≡ (slice_index_or arcs k row).tail → row.head ≡ (slice_index_or arcs k row).head
    → (end : ℕ) → end_node (set arcs k row) end ≡ end_node arcs end
end_node-set arcs k row inside tail head end = by (⊎_elim (λ e. inl e.1) (λ n. inr n.1) (eqb_tells (end / 2) k))
  where
    long : length (set arcs k row) ≡ length arcs
    long = length-set arcs k row

    side : (s : ℕ) → node_of (Some row) s ≡ node_of (Some (slice_index_or arcs k row)) s
    side zero = tail
    side (suc s) = head

    by : (end / 2 ≡ k) ⊎ (end / 2 ≢ k) → end_node (set arcs k row) end ≡ end_node arcs end
    by (inl is) =
        let new = slice_get-get_or (set arcs k row) k row (omega (arith, long)) ∙ ap Some (get_or-set_same arcs k row row inside) in
        let old = slice_get-get_or arcs k row inside in
        ap (λ (q : ℕ). node_of (slice_get (set arcs k row) q) (end % 2)) is ∙ ap (λ (o : Option ArcRow). node_of o (end % 2)) new ∙ side (end % 2)
        ∙ sym (ap (λ (q : ℕ). node_of (slice_get arcs q) (end % 2)) is ∙ ap (λ (o : Option ArcRow). node_of o (end % 2)) old)
    by (inr ne) = ap (λ (o : Option ArcRow). node_of o (end % 2)) (slice_get-set_other arcs k (end / 2) row ne)
