-- Edits and groups one after the other: what each moves, and what it leaves to send out, add up.
use Rattle.std.proofs.Common.{◌≡◌, ◌≢◌, ℕ, ◌+◌, ◌<◌, ℤ, pos, ◌-ℤ◌, ◌+ℤ◌, ◌≤ℤ◌, Result, List, [], ◌∷◌, ◌++◌, length, unsigned_abs, sym, ap, subst, ◌∙◌, arith}
use Rattle.std.specs.List.{All}
use Rattle.std.proofs.lemmas.Int.{ints}
use Rattle.std.proofs.lemmas.List.Elements.{All-head, All-tail, All-cons, All-nil, All-weaker}
use Rattle.dimacs_text.specs.declared.command.Edit.{Edit}
use Rattle.dimacs_text.specs.declared.problem.Kind.{Kind}
use Rattle.network.specs.Flow.{total_excess}
use Rattle.network.specs.Instance.{Instance, is_marked, kind_of, reduced}
use Rattle.network.specs.Instance.{at_node as at_potential}
use Rattle.network.specs.Edited.{and_units, arc_of, units, units_all}
use Rattle.residual_graph.specs.Residual.{number_at}
use Rattle.flow_solver.specs.declared.verdict.Verdict.TheVariants.{Best}
use Rattle.flow_solver.specs.Answer.{IsAnswered}
use Rattle.flow_solver.specs.Edit.{AreMade, ChangeAllTo}
use Rattle.flow_solver.specs.Moment.{IsWellFormed, Moment}
use Rattle.flow_solver.specs.TablesView.{flow_index}
use Rattle.plan_laws.specs.Stability.{IsLeftOut, LeadThrough, MovesWithin, edits_of}
use Rattle.plan_laws.proofs.StabilityLemmas.{AreElsewhere, IsElsewhere, edits_move, kind_all, none_left, other_place, place_below, place_in, place_is, pushes-length, still_there, total_positive, verdict_legal}

-- ---- a list in two parts

first_part : {X : Type 0} (P : X → Type 0) (xs ys : List X) → All P (xs ++ ys) → All P xs
first_part P [] ys all = All-nil P
first_part P (x ∷ xs) ys all = All-cons P x xs (All-head P x (xs ++ ys) all) (first_part P xs ys (All-tail P x (xs ++ ys) all))

second_part : {X : Type 0} (P : X → Type 0) (xs ys : List X) → All P (xs ++ ys) → All P ys
second_part P [] ys all = all
second_part P (x ∷ xs) ys all = second_part P xs ys (All-tail P x (xs ++ ys) all)

-- the units of edits, and of those after them on the instance that they left
units_after : (I J : Instance) (edits more : List Edit) (potential : ℕ → ℤ) (x start : List ℤ) → AreMade I edits potential x J start → units_all I (edits ++ more) ≡ units_all I edits + units_all J more
unfolding units_all
units_after I J [] more potential x start made = let same = ap (λ (K : Instance). units_all K more) (sym made.0) in omega (arith, same)
units_after I J (edit ∷ edits) more potential x start made =
    let rest = units_after made.0 J edits more potential made.1 start made.3 in
    let with_more = ap (λ (r : Result Instance ℕ). and_units r (λ after. units_all after (edits ++ more))) made.2.after in
    let without = ap (λ (r : Result Instance ℕ). and_units r (λ after. units_all after edits)) made.2.after in
    omega (arith, rest, with_more, without)

-- a place of a flow stays one
there_all : (I J : Instance) (edits : List Edit) (potential : ℕ → ℤ) (x start : List ℤ) (place : ℕ) → AreMade I edits potential x J start → place < length x → place < length start
there_all I J [] potential x start place made below = let same = ap (λ (l : List ℤ). length l) made.1 in omega (arith, same, below)
there_all I J (edit ∷ edits) potential x start place made below =
    there_all made.0 J edits potential made.1 start place made.3 (still_there made.0 edit potential x made.1 place made.2.altered below)

by_way_of : (a b c : ℤ) → pos (unsigned_abs (c -ℤ a)) ≤ℤ (pos (unsigned_abs (b -ℤ a)) +ℤ pos (unsigned_abs (c -ℤ b)))
by_way_of a b c = omega (arith, ints)

unmoved : (a b : ℤ) → b ≡ a → pos (unsigned_abs (b -ℤ a)) ≡ pos 0
unmoved a b same = omega (arith, ints, same)

-- ---- along the moments

-- what a run of groups moves at a place where no edit is, and the kind of its last moment
record MovesAlong (units : ℤ) (place : ℕ) (m n : Moment) : Type 0 where
  kind : kind_of n.instance.demand ≡ kind_of m.instance.demand
  moves : (pos (unsigned_abs (number_at n.flow place -ℤ number_at m.flow place)) +ℤ total_excess (reduced n.instance) n.flow) ≤ℤ (total_excess (reduced m.instance) m.flow +ℤ units)

moves_along : (groups : List (List Edit)) (m n : Moment) (place : ℕ) → LeadThrough groups m n → place < length m.flow → AreElsewhere (kind_of m.instance.demand) (edits_of groups) place
    → MovesAlong (pos (units_all m.instance (edits_of groups))) place m n
unfolding units_all
moves_along [] m n place same below others = record {
  kind = ap (λ (l : Moment). kind_of l.instance.demand) same;
  moves =
      let here : number_at n.flow place ≡ number_at m.flow place = ap (λ (l : Moment). number_at l.flow place) same in
      let left : total_excess (reduced n.instance) n.flow ≡ total_excess (reduced m.instance) m.flow = ap (λ (l : Moment). total_excess (reduced l.instance) l.flow) same in
      let none = unmoved (number_at m.flow place) (number_at n.flow place) here in
      omega (arith, ints, none, left);
}
moves_along (edits ∷ groups) m n place led below others =
    let between = led.0 in
    let answered : IsAnswered between = led.2 in
    let change : ChangeAllTo edits m between led.1 = led.3 in
    let more = edits_of groups in
    let here = first_part (λ e. IsElsewhere (kind_of m.instance.demand) e place) edits more others in
    let later = second_part (λ e. IsElsewhere (kind_of m.instance.demand) e place) edits more others in
    let kinds = kind_all m.instance between.instance edits (at_potential m.potentials) m.flow change.start change.made in
    let first = edits_move m.instance between.instance edits (at_potential m.potentials) m.flow between.flow led.1 place answered.sized.lawful change answered.sized.one_flow below here in
    let long = pushes-length (reduced between.instance).arcs (reduced between.instance).supply led.1 change.start between.flow change.pushes in
    let started = there_all m.instance between.instance edits (at_potential m.potentials) m.flow change.start place change.made below in
    let rest = moves_along groups between n place led.4 (omega (arith, long, started)) (subst (λ (t : Kind). AreElsewhere t more place) (sym kinds) later) in
    let split = units_after m.instance between.instance edits more (at_potential m.potentials) m.flow change.start change.made in
    let way = by_way_of (number_at m.flow place) (number_at between.flow place) (number_at n.flow place) in
    let moved = rest.moves in
    record { kind = rest.kind ∙ kinds; moves = omega (arith, ints, first, moved, split, way) }

pub run_moves : (m n : Moment) (groups : List (List Edit)) (k : ℕ) → IsWellFormed m → LeadThrough groups m n → IsLeftOut m.instance (edits_of groups) k
    → MovesWithin (total_excess (reduced m.instance) m.flow +ℤ pos (units_all m.instance (edits_of groups))) k m n
run_moves m n groups k sized led left_out =
    let edits = edits_of groups in
    let place = flow_index m.instance.demand k in
    let there = place_below m.instance.demand m.instance.arcs k left_out.arc.0 left_out.arc.1 in
    let others = All-weaker (λ edit. arc_of edit ≢ k) (λ edit. IsElsewhere (kind_of m.instance.demand) edit place) (λ edit other. other_place m.instance.demand edit k left_out.arc.0 other) edits left_out.unnamed in
    let along = moves_along groups m n place led (omega (arith, there, sized.one_flow)) others in
    let same : flow_index n.instance.demand k ≡ place = sym (place_is n.instance.demand k) ∙ ap (λ (t : Kind). place_in t k) along.kind ∙ place_is m.instance.demand k in
    let moved = along.moves in
    let within : pos (unsigned_abs (number_at n.flow place -ℤ number_at m.flow place)) ≤ℤ (total_excess (reduced m.instance) m.flow +ℤ pos (units_all m.instance edits)) =
    omega (arith, ints, moved, total_positive (reduced n.instance) n.flow) in
    subst (λ (j : ℕ). pos (unsigned_abs (number_at n.flow j -ℤ number_at m.flow place)) ≤ℤ (total_excess (reduced m.instance) m.flow +ℤ pos (units_all m.instance edits))) (sym same) within

pub plans_run : (m n : Moment) (groups : List (List Edit)) (k : ℕ) (w : ℤ) → IsAnswered m → m.verdict ≡ Best w → LeadThrough groups m n → IsLeftOut m.instance (edits_of groups) k
    → MovesWithin (pos (units_all m.instance (edits_of groups))) k m n
plans_run m n groups k w answered best led left_out =
    let legal = verdict_legal m.instance m.flow (is_marked m.cut) m.verdict w best answered.verdict answered.sized.lawful answered.certified.bounds in
    let moves = run_moves m n groups k answered.sized led left_out in
    omega (arith, ints, moves, none_left (reduced m.instance) m.flow legal)
