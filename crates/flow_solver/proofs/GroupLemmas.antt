-- Edits that are made together: what they leave of a flow, and how what is logged of them leads back.
use Rattle.std.proofs.Common.{◌≡◌, ℕ, ◌+◌, ◌-◌, ◌<◌, ◌≤◌, ℤ, pos, ◌+ℤ◌, ◌≤ℤ◌, List, [], ◌∷◌, ◌++◌, length, map, take, drop, get_or, refl, sym, ap, ap₂, subst, ◌∙◌, arith, rules, Result, Ok, Err, IsOk}
use Rattle.std.proofs.lemmas.Int.{ints}
use Rattle.std.proofs.lemmas.List.{drop_more, take_more, length-append, length-set, length-take-le, map_push}
use Rattle.dimacs_text.specs.declared.command.Edit.{Edit}
use Rattle.network.specs.Edited.{edited, edited_all, and_then, units, units_all, and_units}
use Rattle.network.specs.Flow.{IsCertifiedFlow, total_excess}
use Rattle.dimacs_text.specs.declared.problem.ArcRow.{ArcRow}
use Rattle.network.specs.Instance.{Demand, Instance, at_node, reduced, reduced_arcs}
use Rattle.flow_solver.specs.declared.part.Part.{Part}
use Rattle.flow_solver.specs.declared.part.Part.TheVariants.{Arc, Supply, Last, Gone}
use Rattle.flow_solver.specs.TablesView.{TablesView}
use Rattle.flow_solver.specs.Edit.{AreChanges, AreMade, CanMake, IsChange, IsMade, IsMadeIn}
use Rattle.flow_solver.specs.Moment.{Snapshot}
use Rattle.network.specs.Rows.{return_arcs}
use Rattle.flow_solver.specs.Part.{before_all, before_part, place_of_edit, place_of_part, AreLogged, CanTakeBack, CanTakeBackAll, InstancePlace, IsLogged, LeadsBack, TakesBack}
use Rattle.flow_solver.proofs.TablesViewLemmas.{return_arcs_before}

-- ---- what the edits make

-- one edit more
pub made_push : (I K J : Instance) (edits : List Edit) (edit : Edit) (potential : ℕ → ℤ) (x mid start : List ℤ) → AreMade I edits potential x K mid → IsMade K J edit potential mid start → AreMade I (edits ++ edit ∷ []) potential x J start
made_push I K J [] edit potential x mid start made last = (J, start, rw (← made.0, ← made.1) last, (refl, refl))
made_push I K J (first ∷ edits) edit potential x mid start made last = (made.0, made.1, made.2, made_push made.0 K J edits edit potential made.1 mid start made.3 last)

pub made_leads : (I J : Instance) (edits : List Edit) (potential : ℕ → ℤ) (x start : List ℤ) → AreMade I edits potential x J start → edited_all I edits ≡ Ok J
unfolding edited_all
made_leads I J [] potential x start made = ap Ok (sym made.0)
made_leads I J (edit ∷ edits) potential x start made = rw made.2.after (made_leads made.0 J edits potential made.1 start made.3)

-- what is left to send out grows by no more than the units of the edits
pub grown_all : (I J : Instance) (edits : List Edit) (potential : ℕ → ℤ) (x start : List ℤ) → AreMade I edits potential x J start → total_excess (reduced J) start ≤ℤ (total_excess (reduced I) x +ℤ pos (units_all I edits))
unfolding units_all
grown_all I J [] potential x start made = rw (made.0, made.1) (omega (arith, ints))
grown_all I J (edit ∷ edits) potential x start made = rw made.2.after (omega (arith, ints, grown_all made.0 J edits potential made.1 start made.3, made.2.grown))

units_one_by : (r : Result Instance ℕ) → and_units r (λ after. 0) ≡ 0
units_one_by (Ok I) = refl
units_one_by (Err number) = refl

pub units_one : (I : Instance) (edit : Edit) → units_all I (edit ∷ []) ≡ units I edit
unfolding units_all
units_one I edit = (let none = units_one_by (edited I edit) in omega (arith, none))

-- a group of one edit is that edit
pub one_change : (I J : Instance) (edit : Edit) (potential : ℕ → ℤ) (x y : List ℤ) (n : ℕ) → AreChanges I J (edit ∷ []) potential x y n → IsChange I J edit potential x y n
one_change I J edit potential x y n changes = record {
  start = changes.start;
  made = rw (changes.made.3.0, changes.made.3.1) changes.made.2;
  pushes = changes.pushes;
  count = omega (arith, ints, changes.count, units_one I edit);
}

-- the first edit is accepted, and so are those after it on what it gives
pub accepted_first : (I : Instance) (edit : Edit) (edits : List Edit) → IsOk (edited_all I (edit ∷ edits)) → IsOk (edited I edit)
unfolding edited_all
accepted_first I edit edits ok = by (edited I edit) ok
  where
    by : (r : Result Instance ℕ) → IsOk (and_then r (λ after. edited_all after edits)) → IsOk r
    by (Ok after) h = search rules
    by (Err number) h = h

pub accepted_rest : (I J : Instance) (edit : Edit) (edits : List Edit) → edited I edit ≡ Ok J → IsOk (edited_all I (edit ∷ edits)) → IsOk (edited_all J edits)
unfolding edited_all
accepted_rest I J edit edits made ok = subst (λ (r : Result Instance ℕ). IsOk (and_then r (λ after. edited_all after edits))) made ok

-- ---- what is logged

pub before_push : (log : List Part) (part : Part) (I : Instance) → before_all (log ++ part ∷ []) I ≡ before_all log (before_part part I)
before_push [] part I = refl
before_push (first ∷ log) part I = ap (before_part first) (before_push log part I)

pub can_push : (log : List Part) (part : Part) (I : Instance) → CanTakeBackAll log (before_part part I) → CanTakeBack part I → CanTakeBackAll (log ++ part ∷ []) I
can_push [] part I can last = (tt, last)
can_push (first ∷ log) part I can last = (can_push log part I can.0 last, rw (before_push log part I) can.1)

pub can_pop : (log : List Part) (part : Part) (I : Instance) → CanTakeBackAll (log ++ part ∷ []) I → CanTakeBackAll log (before_part part I) × CanTakeBack part I
can_pop [] part I can = (tt, can.1)
can_pop (first ∷ log) part I can = (let rest = can_pop log part I can.0 in ((rest.0, rw (before_push log part I) at can.1), rest.1))

-- one edit more is made and logged
pub leads_push : (log : List Part) (I K J : Instance) (edit : Edit) (part : Part) → LeadsBack log I K → edited K edit ≡ Ok J → TakesBack K edit part → LeadsBack (log ++ part ∷ []) I J
leads_push log I K J edit part leads made takes = record {
  can = can_push log part J (rw (takes.back J made) leads.can) (takes.can J made);
  back = before_push log part J ∙ ap (before_all log) (takes.back J made) ∙ leads.back;
}

-- ---- the loop that makes the edits

pub record IsMaking (i : ℕ) (edits : List Edit) (old now : TablesView) : Type 0 where
  pub accepted : IsOk (edited_all now.moment.instance (drop i edits))
  pub made : AreMade old.moment.instance (take i edits) (at_node old.moment.potentials) old.moment.flow now.moment.instance now.moment.flow
  pub certified : IsCertifiedFlow (reduced now.moment.instance) now.moment.flow (at_node now.moment.potentials)
  pub potentials : now.moment.potentials ≡ old.moment.potentials
  pub back : LeadsBack now.kept.log old.moment.instance now.moment.instance
  pub kept : now.kept ≡ record old.kept { log = now.kept.log }
  pub logged : AreLogged (take i edits) now.kept.log
  pub count : length now.kept.log ≡ i

pub making_start : (edits : List Edit) (old : TablesView) → old.kept.log ≡ [] → IsCertifiedFlow (reduced old.moment.instance) old.moment.flow (at_node old.moment.potentials) → IsOk (edited_all old.moment.instance edits) → IsMaking 0 edits old old
making_start edits old fresh certified accepted = record {
  accepted = accepted;
  made = (refl, refl);
  certified = certified;
  potentials = refl;
  back = rw fresh (record { can = tt; back = refl });
  kept = refl;
  logged = ap (map place_of_part) fresh;
  count = ap (λ (log : List Part). length log) fresh;
}

pub making_fits : (i : ℕ) (edits : List Edit) (old now : TablesView) (d : Edit) → i < length edits → IsMaking i edits old now → CanMake (get_or edits i d) now.moment
making_fits i edits old now d below making = record {
  certified = making.certified;
  accepted = accepted_first now.moment.instance (get_or edits i d) (drop (i + 1) edits) (rw (drop_more edits i d below) at making.accepted);
}

pub making_more : (i : ℕ) (edits : List Edit) (old now noted next : TablesView) (d : Edit) → i < length edits → IsMaking i edits old now
    → noted.moment ≡ now.moment → IsLogged now.moment.instance (get_or edits i d) now.kept noted.kept
    → IsMadeIn (get_or edits i d) noted next
    → IsMaking (i + 1) edits old next
making_more i edits old now noted next d below making same logged in_noted =
    let edit = get_or edits i d in
    let made = rw (same, making.potentials) at in_noted.made in
    let log : next.kept.log ≡ now.kept.log ++ logged.part ∷ [] = ap (λ (k : Snapshot). k.log) (in_noted.kept ∙ logged.now_is) in
    record {
      accepted = accepted_rest now.moment.instance next.moment.instance edit (drop (i + 1) edits) made.after (rw (drop_more edits i d below) at making.accepted);
      made = rw (take_more edits i d below) (made_push old.moment.instance now.moment.instance next.moment.instance (take i edits) edit (at_node old.moment.potentials) old.moment.flow now.moment.flow next.moment.flow making.made made);
      certified = in_noted.certified;
      potentials = in_noted.potentials ∙ ap (λ m. m.potentials) same ∙ making.potentials;
      back = rw log (leads_push now.kept.log old.moment.instance now.moment.instance next.moment.instance edit logged.part making.back made.after logged.takes_back);
      kept = in_noted.kept ∙ logged.now_is ∙ ap (λ (k : Snapshot). record k { log = now.kept.log ++ logged.part ∷ [] }) making.kept ∙ ap (λ (ps : List Part). record old.kept { log = ps }) (sym log);
      logged =
          ap (map place_of_part) log
          ∙ map_push place_of_part now.kept.log logged.part
          ∙ ap₂ (λ (places : List InstancePlace) (place : InstancePlace). places ++ place ∷ []) making.logged logged.place
          ∙ sym (map_push place_of_edit (take i edits) edit)
          ∙ ap (map place_of_edit) (sym (take_more edits i d below));
      count = ap (λ (ps : List Part). length ps) log ∙ length-append now.kept.log (logged.part ∷ []) ∙ ap (λ (n : ℕ). n + 1) making.count;
    }

-- ---- the loop that takes them back

-- an instance has no fewer arcs than the one before
pub arcs_before : (part : Part) (I : Instance) → CanTakeBack part I → length (before_part part I).arcs ≤ length I.arcs
arcs_before (Arc k row) I can = (let same = length-set I.arcs (k - 1) row in omega (arith, same))
arcs_before (Supply v value) I can = omega arith
arcs_before Last I can = (let less = length-take-le (length I.arcs - 1) I.arcs (omega arith) in omega (arith, less))
arcs_before (Gone row flow) I can = absurd can

pub length-rows : (D : Demand) (arcs : List ArcRow) → length (reduced_arcs D arcs) ≡ return_arcs D + length arcs
length-rows D arcs = grind arith

rows_before : (part : Part) (I : Instance) → CanTakeBack part I → length (reduced (before_part part I)).arcs ≤ length (reduced I).arcs
rows_before part I can = omega (arith, length-rows (before_part part I).demand (before_part part I).arcs, length-rows I.demand I.arcs, return_arcs_before (part ∷ []) I, arcs_before part I can)

rows_before_all : (log : List Part) (I : Instance) → CanTakeBackAll log I → length (reduced (before_all log I)).arcs ≤ length (reduced I).arcs
rows_before_all [] I can = omega arith
rows_before_all (part ∷ log) I can = omega (arith, rows_before_all log I can.0, rows_before part (before_all log I) can.1)

-- what is logged can be taken back from an instance, and what is kept beside it is of the one before
pub record IsTakingBack (old : TablesView) (log : List Part) (I : Instance) (beside : Snapshot) : Type 0 where
  pub can : CanTakeBackAll log I
  pub instance : before_all log I ≡ before_all old.kept.log old.moment.instance
  pub kept : beside ≡ record old.kept { log = [] }
  pub fits : length beside.flow ≡ length (reduced (before_all log I)).arcs

module _ (old : TablesView) (log : List Part) (part : Part) (I : Instance) (beside : Snapshot) (is : IsTakingBack old (log ++ part ∷ []) I beside) where
  -- the last part can be taken back, and does not take off more arcs than come off in all
  pub last_can : CanTakeBack part I
  last_can = (can_pop log part I is.can).1

  pub last_fits : length beside.flow ≤ length (reduced (before_part part I)).arcs
  last_fits = (let fits = rw (before_push log part I) at is.fits in omega (arith, fits, rows_before_all log (before_part part I) (can_pop log part I is.can).0))

  pub taken_back : IsTakingBack old log (before_part part I) beside
  taken_back = record { can = (can_pop log part I is.can).0; instance = rw (before_push log part I) at is.instance; kept = is.kept; fits = rw (before_push log part I) at is.fits }
