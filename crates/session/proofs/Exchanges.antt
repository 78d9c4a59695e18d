-- One exchange more: with a list, and with the tables.
use Rattle.std.proofs.Common.{◌≡◌, ℕ, ◌+◌, ◌-◌, ◌<◌, ◌≤◌, ℤ, pos, Bool, false, List, [], ◌∷◌, ◌++◌, get_or, set, take, drop, length, refl, sym, ap, ◌∙◌, arith, append_assoc, length-take-le, get_or-take}
use Rattle.std.proofs.lemmas.List.{set_at, take_more, drop_more, get_or_at, get_or_default}
use Rattle.std.proofs.lemmas.Grind.{common_steps}
use Rattle.network.specs.Flow.{IsPotential}
use Rattle.flow_solver.specs.Moment.{Moment, VerdictFits}
use Rattle.flow_solver.specs.TablesView.{IsFlowValue, flow_index}
use Rattle.session.specs.Places.{IsRising, AreWithin, exchanged, taken, PlacesFit}
use Rattle.session.specs.PlacesLaws.{IsElsewhere, get_or-exchanged_elsewhere, length-taken}
use Rattle.session.specs.Parts.{flow_of}
use Rattle.session.specs.Record.{with_flow, IsMark}
use Rattle.session.proofs.Returns.{get_or-behind, set-behind}

-- ---- with a list

module _ {X : Type 0} where
  pub exchanged-push : (places : List (ℕ × X)) (xs : List X) (p : ℕ × X) → exchanged (places ++ p ∷ []) xs ≡ set (exchanged places xs) (p.0 - 1) p.1
  exchanged-push [] xs p = refl
  exchanged-push (q ∷ places) xs p = exchanged-push places (set xs (q.0 - 1) q.1) p

  pub taken-push : (places : List (ℕ × X)) (xs : List X) (p : ℕ × X) → taken (places ++ p ∷ []) xs ≡ taken places xs ++ (p.0, get_or xs (p.0 - 1) p.1) ∷ []
  taken-push [] xs p = refl
  taken-push (q ∷ places) xs p = ap (λ qs. (q.0, get_or xs (q.0 - 1) q.1) ∷ qs) (taken-push places xs p)

  -- the places before place i are other places than it
  elsewhere_before : (n : ℕ) (places : List (ℕ × X)) (i : ℕ) (d : ℕ × X) → IsRising places → AreWithin n places → i < length places → IsElsewhere ((get_or places i d).0 - 1) (take i places)
  elsewhere_before n places i d rising within below j e before same =
      let in_take : length (take i places) ≡ i = length-take-le i places (omega arith) in
      let apart = rising j i e (omega arith) below in
      let some = (within j e (omega arith)).0 in
      let at = get_or-take i places j e (omega arith) in
      let here = get_or_default places i d e below in
      grind (arith, common_steps)

-- one place more is exchanged, where the places before it are
module _ {X : Type 0} (n : ℕ) (places : List (ℕ × X)) (xs : List X) (i : ℕ) (d : ℕ × X) (rising : IsRising places) (within : AreWithin n places) (below : i < length places) where
  abbrev here : ℕ × X
  here = get_or places i d

  pub exchanged_more : exchanged (take (i + 1) places) xs ≡ set (exchanged (take i places) xs) (here.0 - 1) here.1
  exchanged_more = ap (λ qs. exchanged qs xs) (take_more places i d below) ∙ exchanged-push (take i places) xs here

  pub read_more : (e : X) → get_or (exchanged (take i places) xs) (here.0 - 1) e ≡ get_or xs (here.0 - 1) e
  read_more e = get_or-exchanged_elsewhere (take i places) xs (here.0 - 1) e (elsewhere_before n places i d rising within below)

  pub taken_more : set (taken (take i places) xs ++ drop i places) i (here.0, get_or xs (here.0 - 1) here.1) ≡ taken (take (i + 1) places) xs ++ drop (i + 1) places
  taken_more =
      let done = length-taken (take i places) xs ∙ length-take-le i places (omega arith) in
      ap (λ qs. set (taken (take i places) xs ++ qs) i (here.0, get_or xs (here.0 - 1) here.1)) (drop_more places i d below)
      ∙ set_at (taken (take i places) xs) here (drop (i + 1) places) _ i done
      ∙ sym (ap (λ qs. qs ++ drop (i + 1) places) (ap (λ qs. taken qs xs) (take_more places i d below) ∙ taken-push (take i places) xs here) ∙ append_assoc (taken (take i places) xs) ((here.0, get_or xs (here.0 - 1) here.1) ∷ []) (drop (i + 1) places))

  -- place i is still as it was
  pub here_is : (e : ℕ × X) → get_or (taken (take i places) xs ++ drop i places) i e ≡ here
  here_is e =
      let done = length-taken (take i places) xs ∙ length-take-le i places (omega arith) in
      ap (λ qs. get_or (taken (take i places) xs ++ qs) i e) (drop_more places i d below) ∙ get_or_at (taken (take i places) xs) here (drop (i + 1) places) e i done

-- what one exchange does to a list of places of which those before place i are exchanged, and to the list
pub exchange_step : {X : Type 0} (n : ℕ) (all now : List (ℕ × X)) (xs ys : List X) (i : ℕ) (d : ℕ × X) (v : X) → IsRising all → AreWithin n all → i < length all → now ≡ taken (take i all) xs ++ drop i all → ys ≡ exchanged (take i all) xs → v ≡ get_or ys ((get_or now i d).0 - 1) (get_or now i d).1 → record { places : set now i ((get_or now i d).0, v) ≡ taken (take (i + 1) all) xs ++ drop (i + 1) all; list : set ys ((get_or now i d).0 - 1) (get_or now i d).1 ≡ exchanged (take (i + 1) all) xs }
exchange_step {X} n all now xs ys i d v rising within below now_is ys_is value =
    let p : ℕ × X = get_or all i d in
    let k : ℕ = p.0 - 1 in
    let here = ap (λ qs. get_or qs i d) now_is ∙ here_is n all xs i d rising within below d in
    let read : v ≡ get_or xs k p.1 = value ∙ ap (λ (q : ℕ × X). get_or ys (q.0 - 1) q.1) here ∙ ap (λ (zs : List X). get_or zs k p.1) ys_is ∙ read_more n all xs i d rising within below p.1 in
    record {
      places = ap (λ (q : ℕ × X). set now i (q.0, v)) here ∙ ap (λ (x : X). set now i (p.0, x)) read ∙ ap (λ qs. set qs i (p.0, get_or xs k p.1)) now_is ∙ taken_more n all xs i d rising within below;
      list = ap (λ (q : ℕ × X). set ys (q.0 - 1) q.1) here ∙ ap (λ (zs : List X). set zs k p.1) ys_is ∙ sym (exchanged_more n all xs i d rising within below);
    }

-- ---- with the tables

pub flow_step : (m now next : Moment) (all ps : List (ℕ × ℤ)) (i : ℕ) (v : ℤ) → VerdictFits m.instance.demand m.verdict → PlacesFit IsFlowValue (length (flow_of m)) all → i < length all → ps ≡ taken (take i all) (flow_of m) ++ drop i all → now ≡ with_flow m (exchanged (take i all) (flow_of m)) → let p : ℕ × ℤ = get_or ps i (0, pos 0) in v ≡ get_or now.flow (flow_index now.instance.demand p.0) p.1 → next ≡ record now { flow = set now.flow (flow_index now.instance.demand p.0) p.1 } → record { places : set ps i (p.0, v) ≡ taken (take (i + 1) all) (flow_of m) ++ drop (i + 1) all; moment : next ≡ with_flow m (exchanged (take (i + 1) all) (flow_of m)) }
flow_step m now next all ps i v told fit below ps_is now_is value next_is =
    let xs : List ℤ = flow_of m in
    let ys : List ℤ = exchanged (take i all) xs in
    let p : ℕ × ℤ = get_or ps i (0, pos 0) in
    let here : p ≡ get_or all i (0, pos 0) = ap (λ qs. get_or qs i (0, pos 0)) ps_is ∙ here_is (length xs) all xs i (0, pos 0) fit.rising fit.within below (0, pos 0) in
    let some : 1 ≤ p.0 = rw here (fit.within i (0, pos 0) below).0 in
    let read = ap (λ (n : Moment). get_or n.flow (flow_index n.instance.demand p.0) p.1) now_is ∙ get_or-behind m.instance.demand m.verdict ys p.0 p.1 told some in
    let step = exchange_step (length xs) all ps xs ys i (0, pos 0) v fit.rising fit.within below ps_is refl (value ∙ read) in
    record {
      places = step.places;
      moment =
          next_is
          ∙ ap (λ (n : Moment). record n { flow = set n.flow (flow_index n.instance.demand p.0) p.1 }) now_is
          ∙ ap (λ (zs : List ℤ). record m { flow = zs }) (set-behind m.instance.demand m.verdict ys p.0 p.1 told some)
          ∙ ap (with_flow m) step.list;
    }

pub potential_step : (m now next : Moment) (all ps : List (ℕ × ℤ)) (i : ℕ) (v : ℤ) → PlacesFit IsPotential (length m.potentials) all → i < length all → ps ≡ taken (take i all) m.potentials ++ drop i all → now ≡ record m { potentials = exchanged (take i all) m.potentials } → let p : ℕ × ℤ = get_or ps i (0, pos 0) in v ≡ get_or now.potentials (p.0 - 1) p.1 → next ≡ record now { potentials = set now.potentials (p.0 - 1) p.1 } → record { places : set ps i (p.0, v) ≡ taken (take (i + 1) all) m.potentials ++ drop (i + 1) all; moment : next ≡ record m { potentials = exchanged (take (i + 1) all) m.potentials } }
potential_step m now next all ps i v fit below ps_is now_is value next_is =
    let p : ℕ × ℤ = get_or ps i (0, pos 0) in
    let step = exchange_step (length m.potentials) all ps m.potentials now.potentials i (0, pos 0) v fit.rising fit.within below ps_is (ap (λ (n : Moment). n.potentials) now_is) value in
    record {
      places = step.places;
      moment =
          next_is
          ∙ ap (λ (n : Moment). record n { potentials = set now.potentials (p.0 - 1) p.1 }) now_is
          ∙ ap (λ (xs : List ℤ). record m { potentials = xs }) step.list;
    }

pub mark_step : (m now next : Moment) (all ps : List (ℕ × Bool)) (i : ℕ) (v : Bool) → PlacesFit IsMark (length m.cut) all → i < length all → ps ≡ taken (take i all) m.cut ++ drop i all → now ≡ record m { cut = exchanged (take i all) m.cut } → let p : ℕ × Bool = get_or ps i (0, false) in v ≡ get_or now.cut (p.0 - 1) p.1 → next ≡ record now { cut = set now.cut (p.0 - 1) p.1 } → record { places : set ps i (p.0, v) ≡ taken (take (i + 1) all) m.cut ++ drop (i + 1) all; moment : next ≡ record m { cut = exchanged (take (i + 1) all) m.cut } }
mark_step m now next all ps i v fit below ps_is now_is value next_is =
    let p : ℕ × Bool = get_or ps i (0, false) in
    let step = exchange_step (length m.cut) all ps m.cut now.cut i (0, false) v fit.rising fit.within below ps_is (ap (λ (n : Moment). n.cut) now_is) value in
    record {
      places = step.places;
      moment =
          next_is
          ∙ ap (λ (n : Moment). record n { cut = set now.cut (p.0 - 1) p.1 }) now_is
          ∙ ap (λ (xs : List Bool). record m { cut = xs }) step.list;
    }
