-- What a log says of the instance before it, and the parts that were logged first of their places.
use Rattle.std.proofs.Common.{◌≡◌, ◌≢◌, ℕ, zero, suc, ◌+◌, ◌-◌, ◌<◌, ◌≤◌, ℤ, pos, Bool, true, false, cond, nat_le, List, [], ◌∷◌, ◌++◌, length, map, get_or, set, Option, None, Some, inl, inr, refl, sym, ap, ap₂, ◌∙◌, arith, append_assoc, length-set, length-take-le, get_or-take, get_or-set_same, get_or-set_other}
use mathlib.Core.Bool.{false≢true}
use Rattle.std.specs.List.{All, AllPairs, Contains, cons_option, filter, filter_map, find}
use Rattle.std.proofs.lemmas.Bool.{cases_Bool, cond-true, le-leb, leb-true}
use Rattle.std.proofs.lemmas.Bool.Decides.{eqb_tells}
use Rattle.std.proofs.lemmas.List.{get_or_default}
use Rattle.std.proofs.lemmas.List.Elements.{All-cons, All-contains, All-contains_itself, All-filter, All-head, All-tail, Contains-get_or}
use Rattle.std.proofs.lemmas.List.Kept.{AllPairs-cons}
use Rattle.dimacs_text.specs.declared.problem.ArcRow.{ArcRow}
use Rattle.dimacs_text.specs.declared.command.Edit.{Edit}
use Rattle.dimacs_text.specs.declared.command.Edit.TheVariants as edits
use Rattle.network.specs.Instance.{Demand, Supplies, Terminals, Sides, Instance, IsLawful, kind_of, with_supply}
use Rattle.flow_solver.specs.Part.{before_all, before_part, place_of_edit, place_of_part, AreLogged, CanTakeBack, CanTakeBackAll, InstancePlace, LeadsBack, OfArc, OfNewArc, OfNode}
use Rattle.flow_solver.specs.TablesView.{supplies_in}
use Rattle.flow_solver.specs.declared.part.Part.{Part}
use Rattle.flow_solver.specs.declared.part.Part.TheVariants.{Arc, Supply, Last, Gone}
use Rattle.flow_solver.proofs.GroupLemmas.{arcs_before}
use Rattle.session.specs.Group.{arcs_added, and_arc, arcs_of, is_there, last_parts, new_arcs, nodes_of, rank, valued, AreFirst, AreNames, ArePartsOf, ArePlaces}
use Rattle.session.specs.Parts.{arc_parts, listed, no_row, supply_parts}
use Rattle.session.proofs.Firsts.{find_in, found_cases, has, some_is}
use Rattle.session.proofs.Supplies.{supplies_are}

Contains-behind : {X : Type 0} (x y : X) (xs : List X) → Contains xs y → Contains (x ∷ xs) y
Contains-behind x y xs (k, below, is) = (suc k, omega arith, is)

Contains-filter : {X : Type 0} (test : X → Bool) (xs : List X) (x : X) → Contains (filter test xs) x → Contains xs x
Contains-filter test xs x c = All-contains (Contains xs) (filter test xs) x (All-filter test (Contains xs) xs (All-contains_itself xs)) c

-- ---- numbers that some values have

module _ {X : Type 0} (number : X → Option ℕ) where
  numbered : (xs : List X) (k : ℕ) → Contains (filter_map number xs) k → (x : X) × Contains xs x × (number x ≡ Some k)
  numbered [] k (i, below, is) = absurd (omega arith)
  numbered (x ∷ xs) k c = by (number x) refl (numbered xs k) c
    where
      by : (o : Option ℕ) → number x ≡ o → (Contains (filter_map number xs) k → (y : X) × Contains xs y × (number y ≡ Some k)) → Contains (cons_option o (filter_map number xs)) k
          → (y : X) × Contains (x ∷ xs) y × (number y ≡ Some k)
      by None e rest c = let (y, there, is) = rest c in (y, Contains-behind x y xs there, is)
      by (Some j) e rest (zero, below, is) = (x, (0, omega arith, refl), e ∙ ap Some is)
      by (Some j) e rest (suc i, below, is) = let (y, there, is_k) = rest (i, omega arith, is) in (y, Contains-behind x y xs there, is_k)

  numbers_behind : (x : X) (xs : List X) (k : ℕ) → Contains (filter_map number xs) k → Contains (filter_map number (x ∷ xs)) k
  numbers_behind x xs k = by (number x)
    where
      by : (o : Option ℕ) → Contains (filter_map number xs) k → Contains (cons_option o (filter_map number xs)) k
      by None c = c
      by (Some j) c = Contains-behind j k (filter_map number xs) c

  numbers_there : (xs : List X) (x : X) (k : ℕ) → Contains xs x → number x ≡ Some k → Contains (filter_map number xs) k
  numbers_there [] x k (i, below, is) e = absurd (omega arith)
  numbers_there (y ∷ xs) x k (zero, below, is) e = rw (ap number is ∙ e) (0, omega arith, refl)
  numbers_there (y ∷ xs) x k (suc i, below, is) e = numbers_behind y xs k (numbers_there xs x k (i, omega arith, is) e)

  numbers_all : (P : ℕ → Type 0) (xs : List X) → All (λ x. (k : ℕ) → number x ≡ Some k → P k) xs → All P (filter_map number xs)
  numbers_all P xs all i d below =
      let (x, there, is) = numbered xs (get_or (filter_map number xs) i d) (Contains-get_or (filter_map number xs) i d below) in
      All-contains (λ x. (k : ℕ) → number x ≡ Some k → P k) xs x all there (get_or (filter_map number xs) i d) is

  numbers_rise : (R : X → X → Type 0) → ((x y : X) (j k : ℕ) → R x y → number x ≡ Some j → number y ≡ Some k → j < k) → (xs : List X) → AllPairs R xs → AllPairs ◌<◌ (filter_map number xs)
  numbers_rise R so [] pairs = λ i j d before below. absurd (omega (arith, before, below))
  numbers_rise R so (x ∷ xs) pairs = by (number x) refl (numbers_rise R so xs (λ i j d before below. pairs (suc i) (suc j) d (omega arith) (omega arith)))
    where
      by : (o : Option ℕ) → number x ≡ o → AllPairs ◌<◌ (filter_map number xs) → AllPairs ◌<◌ (cons_option o (filter_map number xs))
      by None e rest = rest
      by (Some j) e rest = AllPairs-cons ◌<◌ j (filter_map number xs) (numbers_all (λ k. j < k) xs (λ i d below k is. so x (get_or xs i d) j k (pairs 0 (suc i) d (omega arith) (omega arith)) e is)) rest

  numbers_kept : (test : X → Bool) → ((x : X) → test x ≡ false → number x ≡ None) → (xs : List X) → filter_map number (filter test xs) ≡ filter_map number xs
  numbers_kept test none [] = refl
  numbers_kept test none (x ∷ xs) = elim (cases_Bool (test x)) [
    | inl passes ↦ rw passes (ap (cons_option (number x)) (numbers_kept test none xs))
    | inr fails ↦ rw (fails, none x fails) (numbers_kept test none xs)
  ]

-- ---- the places of parts and of edits

abbrev pub node_in : InstancePlace → Option ℕ
node_in (OfNode id) = Some id
node_in _ = None

abbrev pub arc_in : ℕ → InstancePlace → Option ℕ
arc_in n (OfArc k) = cond (nat_le k n) (Some k) None
arc_in n _ = None

abbrev new_in : List InstancePlace → ℕ
new_in [] = 0
new_in (OfNewArc ∷ places) = new_in places + 1
new_in (_ ∷ places) = new_in places

abbrev pub node_at : Part → Option ℕ
node_at p = node_in (place_of_part p)

abbrev pub arc_at : ℕ → Part → Option ℕ
arc_at n p = arc_in n (place_of_part p)

filter_map-map : {X Y : Type 0} (h : Y → Option ℕ) (f : X → Y) (xs : List X) → filter_map h (map f xs) ≡ filter_map (λ x. h (f x)) xs
filter_map-map h f [] = refl
filter_map-map h f (x ∷ xs) = ap (cons_option (h (f x))) (filter_map-map h f xs)

nodes_edited : (es : List Edit) → filter_map node_in (map place_of_edit es) ≡ nodes_of es
nodes_edited [] = refl
nodes_edited (edits.Supply node value ∷ es) = ap (λ ks. node ∷ ks) (nodes_edited es)
nodes_edited (_ ∷ es) = nodes_edited es

one_edited : (n arc : ℕ) (ks js : List ℕ) → ks ≡ js → cons_option (cond (nat_le arc n) (Some arc) None) ks ≡ and_arc n arc js
one_edited n arc ks js same = elim (cases_Bool (nat_le arc n)) [
  | inl there ↦ rw there (ap (λ is. arc ∷ is) same)
  | inr new ↦ rw new same
]

arcs_edited : (n : ℕ) (es : List Edit) → filter_map (arc_in n) (map place_of_edit es) ≡ arcs_of n es
arcs_edited n [] = refl
arcs_edited n (edits.Cap arc cap ∷ es) = one_edited n arc _ _ (arcs_edited n es)
arcs_edited n (edits.Low arc low ∷ es) = one_edited n arc _ _ (arcs_edited n es)
arcs_edited n (edits.Cost arc cost ∷ es) = one_edited n arc _ _ (arcs_edited n es)
arcs_edited n (edits.Supply node value ∷ es) = arcs_edited n es
arcs_edited n (edits.Add tail head low cap cost ∷ es) = arcs_edited n es
arcs_edited n (edits.Close arc ∷ es) = one_edited n arc _ _ (arcs_edited n es)

new_edited : (es : List Edit) → new_in (map place_of_edit es) ≡ arcs_added es
new_edited [] = refl
new_edited (edits.Add tail head low cap cost ∷ es) = ap (λ (k : ℕ). k + 1) (new_edited es)
new_edited (_ ∷ es) = new_edited es

-- no edit takes an arc off
new_logged : (log : List Part) (I : Instance) → CanTakeBackAll log I → new_arcs log ≡ new_in (map place_of_part log)
new_logged [] I can = refl
new_logged (Last ∷ log) I can = ap (λ (k : ℕ). k + 1) (new_logged log I can.0)
new_logged (Gone row flow ∷ log) I can = absurd can.1
new_logged (_ ∷ log) I can = new_logged log I can.0

node_gone : (n : ℕ) (p : Part) → is_there n p ≡ false → node_at p ≡ None
node_gone n (Supply id value) e = absurd (false≢true (sym e))
node_gone n _ e = refl

arc_gone : (n : ℕ) (p : Part) → is_there n p ≡ false → arc_at n p ≡ None
arc_gone n (Arc k row) e = rw e refl
arc_gone n _ e = refl

-- ---- one part is taken back

supplies_now : (v : ℕ) (value : ℤ) (D : Demand) → supplies_in (with_supply D v value) ≡ set (supplies_in D) (v - 1) value
supplies_now v value (Supplies xs) = refl
supplies_now v value _ = refl

-- it leaves what is at other places
passed_arc : (p : Part) (I : Instance) (j : ℕ) (d : ArcRow) → CanTakeBack p I → j < length (before_part p I).arcs → (place_of_part p ≡ OfArc (j + 1) → ⊥) → get_or (before_part p I).arcs j d ≡ get_or I.arcs j d
passed_arc (Arc k row) I j d can below other = get_or-set_other I.arcs (k - 1) j row d (λ same. other (ap OfArc (omega (arith, same, can.0.0))))
passed_arc (Supply v value) I j d can below other = refl
passed_arc Last I j d can below other =
    let shorter = length-take-le (length I.arcs - 1) I.arcs (omega arith) in
    get_or-take (length I.arcs - 1) I.arcs j d (omega (arith, shorter, below))
passed_arc (Gone row flow) I j d can below other = absurd can

passed_supply : (p : Part) (I : Instance) (j : ℕ) (d : ℤ) → CanTakeBack p I → (place_of_part p ≡ OfNode (j + 1) → ⊥) → get_or (supplies_in (before_part p I).demand) j d ≡ get_or (supplies_in I.demand) j d
passed_supply (Supply v value) I j d can other =
    ap (λ (xs : List ℤ). get_or xs j d) (supplies_now v value I.demand)
    ∙ get_or-set_other (supplies_in I.demand) (v - 1) j value d (λ same. other (ap OfNode (omega (arith, same, can.1.0))))
passed_supply (Gone row flow) I j d can other = absurd can
passed_supply _ I j d can other = refl

-- it leaves the ends of arcs
passed_ends : (p : Part) (I : Instance) (j : ℕ) (d : ArcRow) → CanTakeBack p I → j < length (before_part p I).arcs
    → ((get_or (before_part p I).arcs j d).tail ≡ (get_or I.arcs j d).tail) × ((get_or (before_part p I).arcs j d).head ≡ (get_or I.arcs j d).head)
passed_ends (Arc k row) I j d can below = elim (eqb_tells j (k - 1)) [
  | inl h ↦
      let inside : k - 1 < length I.arcs = omega (arith, can.0.0, can.0.1) in
      let put : get_or (set I.arcs (k - 1) row) (k - 1) d ≡ row = get_or-set_same I.arcs (k - 1) row d inside in
      let had : get_or I.arcs (k - 1) row ≡ get_or I.arcs (k - 1) d = get_or_default I.arcs (k - 1) row d inside in
      rw h.1 (ap (λ (r : ArcRow). r.tail) put ∙ can.0.2 ∙ ap (λ (r : ArcRow). r.tail) had, ap (λ (r : ArcRow). r.head) put ∙ can.0.3 ∙ ap (λ (r : ArcRow). r.head) had)
  | inr h ↦ let other = get_or-set_other I.arcs (k - 1) j row d h.1 in (ap (λ (r : ArcRow). r.tail) other, ap (λ (r : ArcRow). r.head) other)
]
passed_ends (Supply v value) I j d can below = (refl, refl)
passed_ends Last I j d can below =
    let shorter = length-take-le (length I.arcs - 1) I.arcs (omega arith) in
    let same = get_or-take (length I.arcs - 1) I.arcs j d (omega (arith, shorter, below)) in
    (ap (λ (r : ArcRow). r.tail) same, ap (λ (r : ArcRow). r.head) same)
passed_ends (Gone row flow) I j d can below = absurd can

as_many : (p : Part) (I : Instance) → length (supplies_in (before_part p I).demand) ≡ length (supplies_in I.demand)
as_many (Supply u value) I = ap length (supplies_now u value I.demand) ∙ length-set (supplies_in I.demand) (u - 1) value
as_many _ I = refl

-- ---- the instance before a log

pub nodes_before : (log : List Part) (I : Instance) → (before_all log I).nodes ≡ I.nodes
nodes_before [] I = refl
nodes_before (Last ∷ log) I = nodes_before log I
nodes_before (_ ∷ log) I = nodes_before log I

pub room_before : (log : List Part) (I : Instance) → (before_all log I).room ≡ I.room
room_before [] I = refl
room_before (Last ∷ log) I = room_before log I
room_before (_ ∷ log) I = room_before log I

pub supplies_before : (log : List Part) (I : Instance) → length (supplies_in (before_all log I).demand) ≡ length (supplies_in I.demand)
supplies_before [] I = refl
supplies_before (p ∷ log) I = as_many p (before_all log I) ∙ supplies_before log I

kind_before : (log : List Part) (I : Instance) → kind_of (before_all log I).demand ≡ kind_of I.demand
kind_before [] I = refl
kind_before (Supply v value ∷ log) I = same_kind (before_all log I).demand ∙ kind_before log I
  where
    same_kind : (D : Demand) → kind_of (with_supply D v value) ≡ kind_of D
    same_kind (Supplies xs) = refl
    same_kind _ = refl
kind_before (_ ∷ log) I = kind_before log I

-- the demand with other supplies
abbrev pub with_supplies : Demand → List ℤ → Demand
with_supplies (Supplies ys) xs = Supplies xs
with_supplies (Terminals source sink) xs = Terminals source sink
with_supplies (Sides marks) xs = Sides marks

demand_passed : (v : ℕ) (value : ℤ) (D E : Demand) → with_supplies E (supplies_in D) ≡ D → with_supplies E (supplies_in (with_supply D v value)) ≡ with_supply D v value
demand_passed v value (Supplies xs) (Supplies ys) same = refl
demand_passed v value (Terminals source sink) E same = same
demand_passed v value (Sides marks) E same = same
demand_passed v value (Supplies xs) _ same = absurd (cc same)

demand_same : (D : Demand) → with_supplies D (supplies_in D) ≡ D
demand_same (Supplies xs) = refl
demand_same _ = refl

pub demand_before : (log : List Part) (I : Instance) → with_supplies I.demand (supplies_in (before_all log I).demand) ≡ (before_all log I).demand
demand_before [] I = demand_same I.demand
demand_before (Supply v value ∷ log) I = demand_passed v value (before_all log I).demand I.demand (demand_before log I)
demand_before (_ ∷ log) I = demand_before log I

pub arcs_logged : (log : List Part) (I : Instance) → CanTakeBackAll log I → length I.arcs ≡ length (before_all log I).arcs + new_arcs log
arcs_logged [] I can = omega arith
arcs_logged (Arc k row ∷ log) I can = (let same = length-set (before_all log I).arcs (k - 1) row in omega (arith, same, arcs_logged log I can.0))
arcs_logged (Supply v value ∷ log) I can = arcs_logged log I can.0
arcs_logged (Last ∷ log) I can =
    let K : Instance = before_all log I in
    let fewer = length-take-le (length K.arcs - 1) K.arcs (omega arith) in
    omega (arith, fewer, can.1, arcs_logged log I can.0)
arcs_logged (Gone row flow ∷ log) I can = absurd can.1

pub ends_before : (log : List Part) (I : Instance) (j : ℕ) (d : ArcRow) → CanTakeBackAll log I → j < length (before_all log I).arcs
    → ((get_or I.arcs j d).tail ≡ (get_or (before_all log I).arcs j d).tail) × ((get_or I.arcs j d).head ≡ (get_or (before_all log I).arcs j d).head)
ends_before [] I j d can below = (refl, refl)
ends_before (p ∷ log) I j d can below =
    let fewer = arcs_before p (before_all log I) can.1 in
    let here = passed_ends p (before_all log I) j d can.1 below in
    let rest = ends_before log I j d can.0 (omega (arith, below, fewer)) in
    (rest.0 ∙ sym here.0, rest.1 ∙ sym here.1)

-- ---- what a log says of each place

module _ (n : ℕ) where
  -- it leaves the arcs that it does not name
  pub arc_kept : (log : List Part) (I : Instance) (j : ℕ) (d : ArcRow) → CanTakeBackAll log I → j < n → n ≤ length (before_all log I).arcs → (Contains (filter_map (arc_at n) log) (j + 1) → ⊥) → get_or I.arcs j d ≡ get_or (before_all log I).arcs j d
  arc_kept [] I j d can below few other = refl
  arc_kept (p ∷ log) I j d can below few other =
      let fewer = arcs_before p (before_all log I) can.1 in
      let named : place_of_part p ≡ OfArc (j + 1) → arc_at n p ≡ Some (j + 1) = λ same. ap (arc_in n) same ∙ cond-true (nat_le (j + 1) n) (Some (j + 1)) None (le-leb (j + 1) n (omega (arith, below))) in
      arc_kept log I j d can.0 below (omega (arith, few, fewer)) (λ c. other (numbers_behind (arc_at n) p log (j + 1) c))
      ∙ sym (passed_arc p (before_all log I) j d can.1 (omega (arith, below, few)) (λ same. other (numbers_there (arc_at n) (p ∷ log) p (j + 1) (0, omega arith, refl) (named same))))

  -- what it holds first of an arc stood there
  pub arc_before : (nodes : ℕ) (log : List Part) (I : Instance) (k : ℕ) (row d : ArcRow) → CanTakeBackAll log I → 1 ≤ k → k ≤ n → n ≤ length (before_all log I).arcs
      → find (has (rank nodes) (nodes + k)) (filter (is_there n) log) ≡ Some (Arc k row) → get_or (before_all log I).arcs (k - 1) d ≡ row
  arc_before nodes [] I k row d can some inside few found = cc
  arc_before nodes (p ∷ log) I k row d can some inside few found =
      let K : Instance = before_all log I in
      elim (found_cases (rank nodes) (is_there n) (nodes + k) p (Arc k row) log found) [
        | inl h ↦ rw h.2 (let here = rw h.2 at can.1 in get_or-set_same K.arcs (k - 1) row d (omega (arith, here.0.0, here.0.1)))
        | inr h ↦
            let fewer = arcs_before p K can.1 in
            passed_arc p K (k - 1) d can.1 (omega (arith, some, inside, few)) (λ same. other_arc nodes p k inside h.0 (same ∙ ap OfArc (omega (arith, some))))
            ∙ arc_before nodes log I k row d can.0 some inside (omega (arith, few, fewer)) h.1
      ]
    where
      other_arc : (nodes : ℕ) (p : Part) (k : ℕ) → k ≤ n → (is_there n p ≡ true → rank nodes p ≢ nodes + k) → place_of_part p ≡ OfArc k → ⊥
      other_arc nodes (Arc j row) k inside other same = (let is : j ≡ k = cc in other (le-leb j n (omega (arith, is, inside))) (ap (λ (i : ℕ). nodes + i) is))
      other_arc nodes _ k inside other same = cc

  pub supply_kept : (log : List Part) (I : Instance) (j : ℕ) (d : ℤ) → CanTakeBackAll log I → (Contains (filter_map node_at log) (j + 1) → ⊥) → get_or (supplies_in I.demand) j d ≡ get_or (supplies_in (before_all log I).demand) j d
  supply_kept [] I j d can other = refl
  supply_kept (p ∷ log) I j d can other =
      supply_kept log I j d can.0 (λ c. other (numbers_behind node_at p log (j + 1) c))
      ∙ sym (passed_supply p (before_all log I) j d can.1 (λ same. other (numbers_there node_at (p ∷ log) p (j + 1) (0, omega arith, refl) (ap node_in same))))

  pub supply_before : (nodes : ℕ) (log : List Part) (I : Instance) (v : ℕ) (x d : ℤ) → CanTakeBackAll log I → 1 ≤ v → v ≤ length (supplies_in I.demand)
      → find (has (rank nodes) v) (filter (is_there n) log) ≡ Some (Supply v x) → get_or (supplies_in (before_all log I).demand) (v - 1) d ≡ x
  supply_before nodes [] I v x d can some inside found = cc
  supply_before nodes (p ∷ log) I v x d can some inside found =
      let K : Instance = before_all log I in
      let within : v - 1 < length (supplies_in K.demand) = omega (arith, some, inside, supplies_before log I) in
      elim (found_cases (rank nodes) (is_there n) v p (Supply v x) log found) [
        | inl h ↦ rw h.2 (ap (λ (xs : List ℤ). get_or xs (v - 1) d) (supplies_now v x K.demand) ∙ get_or-set_same (supplies_in K.demand) (v - 1) x d within)
        | inr h ↦
            passed_supply p K (v - 1) d can.1 (λ same. other_node nodes p v h.0 (same ∙ ap OfNode (omega (arith, some))))
            ∙ supply_before nodes log I v x d can.0 some inside h.1
      ]
    where
      other_node : (nodes : ℕ) (p : Part) (v : ℕ) → (is_there n p ≡ true → rank nodes p ≢ v) → place_of_part p ≡ OfNode v → ⊥
      other_node nodes (Supply u value) v other same = other refl cc
      other_node nodes _ v other same = cc

-- ---- parts by their ranks

module _ (nodes n : ℕ) where
  -- a part at a node, or at one of the first n arcs
  abbrev IsPlaced : Part → Type 0
  IsPlaced (Arc k row) = (1 ≤ k) × (k ≤ n)
  IsPlaced (Supply id value) = (1 ≤ id) × (id ≤ nodes)
  IsPlaced _ = ⊥

  same_place : (p q : Part) → IsPlaced p → IsPlaced q → rank nodes q ≡ rank nodes p → place_of_part q ≡ place_of_part p
  same_place (Arc k row) (Arc j other) at_p at_q same = ap OfArc (omega (arith, same))
  same_place (Arc k row) (Supply id value) at_p at_q same = absurd (omega (arith, same, at_p.0, at_q.1))
  same_place (Supply id value) (Arc j other) at_p at_q same = absurd (omega (arith, same, at_p.1, at_q.0))
  same_place (Supply id value) (Supply v other) at_p at_q same = ap OfNode same
  same_place Last q at_p at_q same = absurd at_p
  same_place (Gone row flow) q at_p at_q same = absurd at_p
  same_place p _ at_p at_q same = absurd at_q

  node_rank : (p : Part) (k : ℕ) → node_at p ≡ Some k → rank nodes p ≡ k
  node_rank (Supply id value) k is = some_is id k is
  node_rank _ k is = cc

  arc_rank : (p : Part) (k : ℕ) → arc_at n p ≡ Some k → rank nodes p ≡ nodes + k
  arc_rank (Arc j row) k is = elim (cases_Bool (nat_le j n)) [
    | inl there ↦ ap (λ (i : ℕ). nodes + i) (some_is j k (rw there at is))
    | inr new ↦ cc
  ]
  arc_rank _ k is = cc

  module _ (xs : List ℤ) (rows : List ArcRow) where
    -- it names what the lists have at its place
    abbrev IsValued : Part → Type 0
    IsValued (Arc k row) = get_or rows (k - 1) no_row ≡ row
    IsValued (Supply id value) = get_or xs (id - 1) (pos 0) ≡ value
    IsValued _ = ⊥

    abbrev IsIn : Part → Type 0
    IsIn p = IsPlaced p × IsValued p

    abbrev Lower : Part → Part → Type 0
    Lower p q = rank nodes p < rank nodes q

    no_nodes : (b : ℕ) (ps : List Part) → nodes < b → All (λ q. b < rank nodes q) ps → All IsIn ps → filter_map node_at ps ≡ []
    no_nodes b [] high above are = refl
    no_nodes b (Arc k row ∷ ps) high above are = no_nodes b ps high (All-tail (λ q. b < rank nodes q) (Arc k row) ps above) (All-tail IsIn (Arc k row) ps are)
    no_nodes b (Supply id value ∷ ps) high above are =
        absurd (omega (arith, high, All-head (λ q. b < rank nodes q) (Supply id value) ps above, (All-head IsIn (Supply id value) ps are).0.1))
    no_nodes b (Last ∷ ps) high above are = absurd (All-head IsIn Last ps are).0
    no_nodes b (Gone row flow ∷ ps) high above are = absurd (All-head IsIn (Gone row flow) ps are).0

    listed_are : (ps : List Part) → AllPairs Lower ps → All IsIn ps → ps ≡ supply_parts (valued (filter_map node_at ps) xs (pos 0)) ++ arc_parts (valued (filter_map (arc_at n) ps) rows no_row)
    listed_are [] rising are = refl
    listed_are (Arc k row ∷ ps) rising are =
        let here = All-head IsIn (Arc k row) ps are in
        let rest = All-tail IsIn (Arc k row) ps are in
        let none : filter_map node_at ps ≡ [] = no_nodes (nodes + k) ps (omega (arith, here.0.0)) (λ i d below. rising 0 (suc i) d (omega arith) (omega arith)) rest in
        let same = listed_are ps (λ i j d before below. rising (suc i) (suc j) d (omega arith) (omega arith)) rest in
        rw (le-leb k n here.0.1, none) (ap₂ (λ (r : ArcRow) (qs : List Part). Arc k r ∷ qs) (sym here.1) (rw none at same))
    listed_are (Supply id value ∷ ps) rising are =
        let same = listed_are ps (λ i j d before below. rising (suc i) (suc j) d (omega arith) (omega arith)) (All-tail IsIn (Supply id value) ps are) in
        ap₂ (λ (x : ℤ) (qs : List Part). Supply id x ∷ qs) (sym (All-head IsIn (Supply id value) ps are).1) same
    listed_are (Last ∷ ps) rising are = absurd (All-head IsIn Last ps are).0
    listed_are (Gone row flow ∷ ps) rising are = absurd (All-head IsIn (Gone row flow) ps are).0

-- the places that are logged are there
placed : (n : ℕ) (log : List Part) (I : Instance) → CanTakeBackAll log I → All (IsPlaced I.nodes n) (filter (is_there n) log)
placed n [] I can = λ k d below. absurd (omega arith)
placed n (Arc k row ∷ log) I can = elim (cases_Bool (nat_le k n)) [
  | inl there ↦ rw there (All-cons (IsPlaced I.nodes n) (Arc k row) (filter (is_there n) log) (can.1.0.0, leb-true k n there) (placed n log I can.0))
  | inr new ↦ rw new (placed n log I can.0)
]
placed n (Supply id value ∷ log) I can =
    let same = nodes_before log I in
    All-cons (IsPlaced I.nodes n) (Supply id value) (filter (is_there n) log) (can.1.1.0, omega (arith, can.1.1.1, same)) (placed n log I can.0)
placed n (Last ∷ log) I can = placed n log I can.0
placed n (Gone row flow ∷ log) I can = absurd can.1

-- where a supply was logged each node has one
supplied : (log : List Part) (I : Instance) (p : Part) (k : ℕ) → IsLawful I → CanTakeBackAll log I → Contains log p → node_at p ≡ Some k → length (supplies_in I.demand) ≡ I.nodes
supplied [] I p k lawful can (i, below, at) is = absurd (omega arith)
supplied (q ∷ log) I p k lawful can (zero, below, at) is = here q (ap node_at at ∙ is) can.1
  where
    here : (q : Part) → node_at q ≡ Some k → CanTakeBack q (before_all log I) → length (supplies_in I.demand) ≡ I.nodes
    here (Supply v value) e can_q = (supplies_are I.nodes I.demand lawful.demand (sym (kind_before log I) ∙ can_q.0)).0
    here _ e can_q = cc
supplied (q ∷ log) I p k lawful can (suc i, below, at) is = supplied log I p k lawful can.0 (i, omega arith, at) is

pub arcs_there : (n : ℕ) (log : List Part) (I : Instance) → CanTakeBackAll log I → ArePlaces n (filter_map (arc_at n) log)
arcs_there n log I can =
    rw (← numbers_kept (arc_at n) (is_there n) (arc_gone n) log)
    (numbers_all (arc_at n) (λ k. (1 ≤ k) × (k ≤ n)) (filter (is_there n) log) (λ i d below. within (get_or (filter (is_there n) log) i d) (placed n log I can i d below)))
  where
    within : (p : Part) → IsPlaced I.nodes n p → (k : ℕ) → arc_at n p ≡ Some k → (1 ≤ k) × (k ≤ n)
    within (Arc j row) at k is = elim (cases_Bool (nat_le j n)) [
      | inl there ↦ rw (some_is j k (rw there at is)) at at
      | inr new ↦ cc
    ]
    within _ at k is = cc

pub nodes_there : (n : ℕ) (log : List Part) (I : Instance) → IsLawful I → CanTakeBackAll log I → ArePlaces (length (supplies_in I.demand)) (filter_map node_at log)
nodes_there n log I lawful can =
    let there : List Part = filter (is_there n) log in
    rw (← numbers_kept node_at (is_there n) (node_gone n) log)
    (numbers_all node_at (λ k. (1 ≤ k) × (k ≤ length (supplies_in I.demand))) there (λ i d below k is.
    let p : Part = get_or there i d in
    let many = supplied log I p k lawful can (Contains-filter (is_there n) log p (Contains-get_or there i d below)) is in
    rw many (within p (placed n log I can i d below) k is)))
  where
    within : (p : Part) → IsPlaced I.nodes n p → (k : ℕ) → node_at p ≡ Some k → (1 ≤ k) × (k ≤ I.nodes)
    within (Supply v value) at k is = rw (some_is v k is) at at
    within _ at k is = cc

-- ---- the parts that were logged

-- the parts, in their normal form, name exactly the places of a log, with what the instance I has there
pub record AreNamedBy (I : Instance) (log ps : List Part) : Type 0 where
  pub nodes : List ℕ
  pub arcs : List ℕ
  pub nodes_named : AreNames nodes (filter_map node_at log)
  pub arcs_named : AreNames arcs (filter_map (arc_at (length I.arcs)) log)
  pub parts : ps ≡ listed (record { supplies = valued nodes (supplies_in I.demand) (pos 0); rows = valued arcs I.arcs no_row; come_rows = []; come_flows = []; go = new_arcs log })

-- these are the places of the edits that were logged
pub parts_of : (edits : List Edit) (I J : Instance) (log ps : List Part) → CanTakeBackAll log J → AreLogged edits log → AreNamedBy I log ps → ArePartsOf edits I ps
parts_of edits I J log ps can logged named =
    let nodes_are : filter_map node_at log ≡ nodes_of edits = sym (filter_map-map node_in place_of_part log) ∙ ap (filter_map node_in) logged ∙ nodes_edited edits in
    let arcs_are : filter_map (arc_at (length I.arcs)) log ≡ arcs_of (length I.arcs) edits =
    sym (filter_map-map (arc_in (length I.arcs)) place_of_part log) ∙ ap (filter_map (arc_in (length I.arcs))) logged ∙ arcs_edited (length I.arcs) edits in
    record {
      nodes = named.nodes;
      arcs = named.arcs;
      nodes_named = rw nodes_are at named.nodes_named;
      arcs_named = rw arcs_are at named.arcs_named;
      parts = rw (new_logged log J can ∙ ap new_in logged ∙ new_edited edits) at named.parts;
    }

-- parts that are the first logged of their places, of a log that leads from J back to I
pub record AreOf (I J : Instance) (log firsts : List Part) : Type 0 where
  pub leads : LeadsBack log I J
  pub first : AreFirst (rank J.nodes) (filter (is_there (length I.arcs)) log) firsts
  pub lawful : IsLawful J

module _ (I J : Instance) (log firsts : List Part) (of : AreOf I J log firsts) where
  abbrev n : ℕ
  n = length I.arcs

  abbrev nodes : ℕ
  nodes = J.nodes

  abbrev xs : List ℤ
  xs = supplies_in I.demand

  abbrev there : List Part
  there = filter (is_there n) log

  there_of : (p : Part) → Contains firsts p → Contains there p
  there_of p c = All-contains (Contains there) firsts p (λ k d below. find_in (rank nodes) (has (rank nodes) (rank nodes (get_or firsts k d))) there (get_or firsts k d) (of.first.first k d below)) c

  placed_of : (p : Part) → Contains there p → IsPlaced nodes n p
  placed_of p c = All-contains (IsPlaced nodes n) there p (placed n log J of.leads.can) c

  -- the first at a place has what stood there
  valued_by : (p : Part) → Contains there p → IsPlaced nodes n p → find (has (rank nodes) (rank nodes p)) there ≡ Some p → IsValued nodes n xs I.arcs p
  valued_by (Arc k row) c at found = rw of.leads.back at (arc_before n nodes log J k row no_row of.leads.can at.0 at.1 (omega (arith, ap (λ (K : Instance). length K.arcs) of.leads.back)) found)
  valued_by (Supply v x) c at found =
      let many = supplied log J (Supply v x) v of.lawful of.leads.can (Contains-filter (is_there n) log (Supply v x) c) refl in
      rw of.leads.back at (supply_before n nodes log J v x (pos 0) of.leads.can at.0 (omega (arith, at.1, many)) found)
  valued_by _ c at found = absurd at

  all_in : All (IsIn nodes n xs I.arcs) firsts
  all_in k d below =
      let p : Part = get_or firsts k d in
      let c : Contains there p = there_of p (Contains-get_or firsts k d below) in
      (placed_of p c, valued_by p c (placed_of p c) (of.first.first k d below))

  -- the numbers of places are those that were logged, each once and rising
  names_of : (number : InstancePlace → Option ℕ) (offset : ℕ) → ((p : Part) (k : ℕ) → number (place_of_part p) ≡ Some k → rank nodes p ≡ offset + k) → (all : List ℕ) → filter_map (λ p. number (place_of_part p)) there ≡ all
      → AreNames (filter_map (λ p. number (place_of_part p)) firsts) all
  names_of number offset ranked all names =
      let at_place : Part → Option ℕ = λ p. number (place_of_part p) in
      record {
        rising = numbers_rise at_place (Lower nodes n xs I.arcs) (λ p q j k lower is_j is_k. omega (arith, lower, ranked p j is_j, ranked q k is_k)) firsts of.first.rising;
        same = λ k. (
          λ c. let (p, first, is) = numbered at_place firsts k c in rw names at (numbers_there at_place there p k (there_of p first) is),
          λ c.
              let (p, part, is) = numbered at_place there k (rw names c) in
              let (i, q, below, at, same) = of.first.each p part in
              numbers_there at_place firsts q k (i, below, at) (ap number (same_place nodes n p q (placed_of p part) (placed_of q (there_of q (i, below, at))) same) ∙ is),
        );
      }

  pub parts_back : (ps : List Part) → ps ≡ firsts ++ last_parts log → AreNamedBy I log ps
  parts_back ps is =
      let nodes_back : List Part = supply_parts (valued (filter_map node_at firsts) xs (pos 0)) in
      let arcs_back : List Part = arc_parts (valued (filter_map (arc_at n) firsts) I.arcs no_row) in
      record {
        nodes = filter_map node_at firsts;
        arcs = filter_map (arc_at n) firsts;
        nodes_named = names_of node_in 0 (λ p k is. omega (arith, node_rank nodes n p k is)) (filter_map node_at log) (numbers_kept node_at (is_there n) (node_gone n) log);
        arcs_named = names_of (arc_in n) nodes (arc_rank nodes n) (filter_map (arc_at n) log) (numbers_kept (arc_at n) (is_there n) (arc_gone n) log);
        parts =
            is
            ∙ ap (λ (qs : List Part). qs ++ last_parts log) (listed_are nodes n xs I.arcs firsts of.first.rising all_in)
            ∙ append_assoc nodes_back arcs_back (last_parts log);
      }
