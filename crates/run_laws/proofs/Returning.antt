-- A moment that bears a mark stays what it is: where `back` goes to it, it shows the same.
use Rattle.std.proofs.Common.{◌≡◌, ◌≢◌, ℕ, ◌≤◌, Bool, true, false, List, [], ◌∷◌, ◌++◌, length, get_or, drop, Ok, Err, Result, Option, Some, None, inl, inr, append_assoc, refl, sym, ap, ap₂, subst, ◌∙◌, arith}
use Rattle.std.specs.Prelude.{◌⊎◌, MatchResult}
use Rattle.dimacs_io.specs.Line.{refusal_line}
use Rattle.dimacs_text.specs.declared.command_fault.CommandFault.{CommandFault}
use Rattle.dimacs_text.specs.declared.command.Command.{Command}
use Rattle.dimacs_text.specs.declared.command.Command.TheVariants as commands
use Rattle.dimacs_text.specs.declared.command.Edit.{Edit}
use Rattle.dimacs_text.specs.Command.{command}
use Rattle.dimacs_text.specs.Group.{Gathered, gathered}
use Rattle.dimacs_text.specs.Turns.{Turn, OfLine, OfGroup}
use Rattle.network.specs.Edited.{edited, edited_all}
use Rattle.network.specs.Instance.{Instance, kind_of}
use Rattle.flow_solver.specs.Moment.{Moment}
use Rattle.history.specs.Boards.{Timeline, Advances, all_boards}
use Rattle.history.proofs.Timelines.{all_boards_back, all_boards_forward}
use Rattle.session.specs.declared.refusal.StepRefusal.TheVariants as refusal
use Rattle.session.specs.Marks.{AreMarks, has_place, marked, up_to}
use Rattle.session.specs.Refusal.{number_of}
use Rattle.session.specs.Step.{Reply, SessionState, IsApplied, IsRefused, StepBy, StepOfBack, StepOfEdits, StepOfMark, TurnStep}
use Rattle.session.proofs.Apart.{found_again, kept_few, kept_where, others_stay, put_few}
use Rattle.engines.specs.Printing.{solution}
use Rattle.engines.specs.Run.{Run}
use Rattle.run_laws.specs.Returned.{GivesName, IsBack, LeavesName}
use Rattle.run_laws.specs.Undone.{AllTurns, IsShow}
use Rattle.run_laws.proofs.Undoing.{Accepts, accepts_by, split, text_shown}

-- ---- a moment at its place

-- of all moments, counted from 0, that one is m
record IsAt (moments : List Moment) (place : ℕ) (m : Moment) : Type 0 where
  front : List Moment
  back : List Moment
  is : moments ≡ front ++ m ∷ back
  count : length front ≡ place

same_at : (x m : Moment) (xs ys front back : List Moment) → xs ++ x ∷ ys ≡ front ++ m ∷ back → length xs ≡ length front → x ≡ m
same_at x m [] ys [] back e count = ap (λ (l : List Moment). get_or l 0 x) e
same_at x m [] ys (f ∷ front) back e count = absurd (omega (arith, count))
same_at x m (a ∷ xs) ys [] back e count = absurd (omega (arith, count))
same_at x m (a ∷ xs) ys (f ∷ front) back e count = same_at x m xs ys front back (ap (drop 1) e) (omega (arith, count))

present_is : (t : Timeline Moment) (place : ℕ) (m : Moment) → IsAt (all_boards t) place m → length t.past ≡ place → t.present ≡ m
present_is t place m at past = same_at t.present m t.past t.future at.front at.back at.is (past ∙ sym at.count)

-- what is at a place up to the present one stays there when a new step drops what is after it
front_stays : (x m : Moment) (xs ys front back : List Moment) → xs ++ x ∷ ys ≡ front ++ m ∷ back → length front ≤ length xs → (rest : List Moment) × (xs ++ x ∷ [] ≡ front ++ m ∷ rest)
front_stays x m [] ys [] back e below = ([], ap (λ (l : List Moment). get_or l 0 x ∷ []) e)
front_stays x m (a ∷ xs) ys [] back e below = (xs ++ x ∷ [], ap (λ (l : List Moment). get_or l 0 x ∷ (xs ++ x ∷ [])) e)
front_stays x m [] ys (f ∷ front) back e below = absurd (omega (arith, below))
front_stays x m (a ∷ xs) ys (f ∷ front) back e below =
    let rest = front_stays x m xs ys front back (ap (drop 1) e) (omega (arith, below)) in
    (rest.0, ap₂ ◌∷◌ (ap (λ (l : List Moment). get_or l 0 x) e) rest.1)

stays_at : (old new : Timeline Moment) (place : ℕ) (m : Moment) → Advances old new → place ≤ length old.past → IsAt (all_boards old) place m → IsAt (all_boards new) place m
stays_at old new place m made below at =
    let kept = front_stays old.present m old.past old.future at.front at.back at.is (omega (arith, below, at.count)) in
    record {
      front = at.front;
      back = kept.0 ++ new.present ∷ [];
      is =
          ap₂ (λ (past future : List Moment). past ++ new.present ∷ future) made.past made.future
          ∙ ap (λ (l : List Moment). l ++ new.present ∷ []) kept.1
          ∙ append_assoc at.front (m ∷ kept.0) (new.present ∷ []);
      count = at.count;
    }

-- ---- what the steps keep

module _ (name : List ℕ) (m : Moment) where
  -- where the name has a mark, it is on that moment
  record Keeps (s : SessionState) : Type 0 where
    are : AreMarks s.marks
    at : (place : ℕ) → marked s.marks name ≡ Some place → IsAt (all_boards s.moments) place m

  unchanged : (old new : SessionState) → new ≡ old → Keeps old → Keeps new
  unchanged old new same keeps = subst Keeps (sym same) keeps

  moves : (old new : SessionState) → all_boards new.moments ≡ all_boards old.moments → new.marks ≡ old.marks → Keeps old → Keeps new
  moves old new boards marks keeps = record {
    are = subst AreMarks (sym marks) keeps.are;
    at = λ place found. subst (λ (l : List Moment). IsAt l place m) (sym boards) (keeps.at place (ap (λ ms. marked ms name) (sym marks) ∙ found));
  }

  advances : (old new : SessionState) → Advances old.moments new.moments → new.marks ≡ up_to (length old.moments.past) old.marks → Keeps old → Keeps new
  advances old new made marks keeps = record {
    are = subst AreMarks (sym marks) (kept_few old.marks (length old.moments.past) keeps.are);
    at = λ place found.
        let there = kept_where old.marks name (length old.moments.past) place keeps.are (ap (λ ms. marked ms name) (sym marks) ∙ found) in
        stays_at old.moments new.moments place m made there.1 (keeps.at place there.0);
  }

  edit_keeps : (tested : Result Instance ℕ) (edit : Edit) (old new : SessionState) (reply : Reply)
      → MatchResult tested (λ _. IsApplied edit old reply new ⊎ IsRefused (number_of refusal.Memory) old reply new) (λ number. IsRefused number old reply new) → Keeps old → Keeps new
  edit_keeps (Ok I) edit old new reply (inl applied) keeps = advances old new applied.advances applied.marks keeps
  edit_keeps (Ok I) edit old new reply (inr refused) keeps = unchanged old new refused.unchanged keeps
  edit_keeps (Err number) edit old new reply refused keeps = unchanged old new refused.unchanged keeps

  mark_keeps : (place : Bool) (other : List ℕ) (old new : SessionState) (reply : Reply) → has_place old.marks other ≡ place → other ≢ name → StepOfMark place other old reply new → Keeps old → Keeps new
  mark_keeps true other old new reply there apart put keeps = record {
    are = subst AreMarks (sym put.marks) (put_few old.marks other (length old.moments.past) keeps.are there);
    at = λ place found.
        let before = sym (others_stay old.marks other name (length old.moments.past) apart) ∙ ap (λ ms. marked ms name) (sym put.marks) ∙ found in
        subst (λ (t : Timeline Moment). IsAt (all_boards t) place m) (sym put.moments) (keeps.at place before);
  }
  mark_keeps false other old new reply there apart refused keeps = unchanged old new refused.unchanged keeps

  back_keeps : (place : Option ℕ) (old new : SessionState) (reply : Reply) → StepOfBack place old reply new → Keeps old → Keeps new
  back_keeps (Some place) old new reply moved keeps = moves old new moved.moved.boards moved.marks keeps
  back_keeps None old new reply refused keeps = unchanged old new refused.unchanged keeps

  command_keeps : (c : Command) (old new : SessionState) (reply : Reply) → ◌≢◌ {A = Result Command ℕ} (Ok c) (Ok (commands.Mark name)) → StepBy c old reply new → Keeps old → Keeps new
  command_keeps (commands.Edit edit) old new reply leaves step keeps = edit_keeps (edited old.moments.present.instance edit) edit old new reply step keeps
  command_keeps commands.Undo old new reply leaves (inl undone) keeps = moves old new (all_boards_back old.moments new.moments undone.back) undone.marks keeps
  command_keeps commands.Undo old new reply leaves (inr none) keeps = unchanged old new none.1.unchanged keeps
  command_keeps commands.Redo old new reply leaves (inl redone) keeps = moves old new (all_boards_forward old.moments new.moments redone.forward) redone.marks keeps
  command_keeps commands.Redo old new reply leaves (inr none) keeps = unchanged old new none.1.unchanged keeps
  command_keeps commands.Show old new reply leaves shown keeps = unchanged old new shown.unchanged keeps
  command_keeps commands.Proof old new reply leaves shown keeps = unchanged old new shown.unchanged keeps
  command_keeps commands.Group old new reply leaves refused keeps = unchanged old new refused.unchanged keeps
  command_keeps commands.End old new reply leaves refused keeps = unchanged old new refused.unchanged keeps
  command_keeps (commands.Mark other) old new reply leaves step keeps =
      mark_keeps (has_place old.marks other) other old new reply refl (λ same. leaves (ap (λ n. Ok (commands.Mark n)) same)) step keeps
  command_keeps (commands.Back other) old new reply leaves step keeps = back_keeps (marked old.marks other) old new reply step keeps

  line_keeps : (r : Result Command ℕ) (old new : SessionState) (reply : Reply) → r ≢ Ok (commands.Mark name)
      → MatchResult r (λ c. StepBy c old reply new) (λ number. IsRefused number old reply new) → Keeps old → Keeps new
  line_keeps (Ok c) old new reply leaves step keeps = command_keeps c old new reply leaves step keeps
  line_keeps (Err number) old new reply leaves refused keeps = unchanged old new refused.unchanged keeps

  edits_keep : (fault : Option CommandFault) (edits : List Edit) (old new : SessionState) (reply : Reply) → StepOfEdits fault edits old reply new → Keeps old → Keeps new
  edits_keep (Some fault) edits old new reply refused keeps = unchanged old new refused.unchanged keeps
  edits_keep None edits old new reply (inl applied) keeps = advances old new applied.advances applied.marks keeps
  edits_keep None edits old new reply (inr refused) keeps = unchanged old new refused.unchanged keeps

  group_keeps : (tested : Result Instance ℕ) (group : Gathered) (old new : SessionState) (reply : Reply)
      → MatchResult tested (λ _. StepOfEdits group.fault group.edits old reply new) (λ number. IsRefused number old reply new) → Keeps old → Keeps new
  group_keeps (Ok I) group old new reply step keeps = edits_keep group.fault group.edits old new reply step keeps
  group_keeps (Err number) group old new reply refused keeps = unchanged old new refused.unchanged keeps

  turn_keeps : (turn : Turn) (old new : SessionState) (reply : Reply) → LeavesName name turn → TurnStep old turn reply new → Keeps old → Keeps new
  turn_keeps (OfLine line) old new reply leaves step keeps =
      let kind = kind_of old.moments.present.instance.demand in line_keeps (command kind line) old new reply (leaves kind) step keeps
  turn_keeps (OfGroup lines) old new reply leaves step keeps =
      let group = gathered (kind_of old.moments.present.instance.demand) 0 lines in group_keeps (edited_all old.moments.present.instance group.edits) group old new reply step keeps

  turns_keep : (old new : SessionState) (turns : List Turn) (texts : List (List ℕ)) → AllTurns (LeavesName name) turns → Run old turns texts new → Keeps old → Keeps new
  turns_keep old new [] [] leave run keeps = unchanged old new run keeps
  turns_keep old new [] (text ∷ texts) leave run keeps = absurd run
  turns_keep old new (turn ∷ turns) [] leave run keeps = absurd run
  turns_keep old new (turn ∷ turns) (text ∷ texts) leave run keeps =
      turns_keep run.0 new turns texts leave.1 run.4 (turn_keeps turn old run.0 run.1 leave.0 run.2 keeps)

-- ---- the mark is put, and gone back to

module _ (name : List ℕ) where
  put_by : (place : Bool) (old new : SessionState) (reply : Reply) → has_place old.marks name ≡ place → Accepts reply → StepOfMark place name old reply new → AreMarks old.marks
      → Keeps name old.moments.present new × (new.moments ≡ old.moments)
  put_by true old new reply there accepts put are = (
    record {
      are = subst AreMarks (sym put.marks) (put_few old.marks name (length old.moments.past) are there);
      at = λ place found.
          let here : Some (length old.moments.past) ≡ Some place = sym (found_again old.marks name (length old.moments.past)) ∙ ap (λ ms. marked ms name) (sym put.marks) ∙ found in
          let is : length old.moments.past ≡ place = cc in
          record {
            front = old.moments.past;
            back = old.moments.future;
            is = ap all_boards put.moments;
            count = is;
          };
    },
    put.moments,
  )
  put_by false old new reply there accepts refused are = absurd (accepts (number_of refusal.TooManyMarks) refused.reply_is)

  mark_step : (turn : Turn) (old new : SessionState) (reply : Reply) → GivesName name turn → Accepts reply → TurnStep old turn reply new → AreMarks old.marks
      → Keeps name old.moments.present new × (new.moments ≡ old.moments)
  mark_step (OfLine line) old new reply is accepts step are =
      put_by (has_place old.marks name) old new reply refl accepts
      (subst (λ (q : Result Command ℕ). MatchResult q (λ c. StepBy c old reply new) (λ number. IsRefused number old reply new)) (is (kind_of old.moments.present.instance.demand)) step)
      are
  mark_step (OfGroup lines) old new reply is accepts step are = absurd is

  moved_by : (m : Moment) (found : Option ℕ) (old new : SessionState) (reply : Reply) → marked old.marks name ≡ found → Accepts reply → StepOfBack found old reply new → Keeps name m old
      → new.moments.present ≡ m
  moved_by m (Some place) old new reply there accepts moved keeps =
      present_is new.moments place m (subst (λ (l : List Moment). IsAt l place m) (sym moved.moved.boards) (keeps.at place there)) moved.moved.past
  moved_by m None old new reply there accepts refused keeps = absurd (accepts (number_of refusal.NoSuchMark) refused.reply_is)

  back_step : (m : Moment) (turn : Turn) (old new : SessionState) (reply : Reply) → IsBack name turn → Accepts reply → TurnStep old turn reply new → Keeps name m old → new.moments.present ≡ m
  back_step m (OfLine line) old new reply is accepts step keeps =
      moved_by m (marked old.marks name) old new reply refl accepts
      (subst (λ (q : Result Command ℕ). MatchResult q (λ c. StepBy c old reply new) (λ number. IsRefused number old reply new)) (is (kind_of old.moments.present.instance.demand)) step)
      keeps
  back_step m (OfGroup lines) old new reply is accepts step keeps = absurd is

pub returned_shows_the_same : (proof : Bool) (name : List ℕ) (old new : SessionState) (mark first back last : Turn) (turns : List Turn) (told_mark shown moved again : List ℕ) (told : List (List ℕ))
    → AreMarks old.marks → GivesName name mark → IsShow proof first → AllTurns (LeavesName name) turns → IsBack name back → IsShow proof last
    → length told ≡ length turns → ((number : ℕ) → told_mark ≢ refusal_line number) → ((number : ℕ) → moved ≢ refusal_line number)
    → Run old (mark ∷ first ∷ turns ++ back ∷ last ∷ []) (told_mark ∷ shown ∷ told ++ moved ∷ again ∷ []) new → again ≡ shown
returned_shows_the_same proof name old new mark first back last turns told_mark shown moved again told are is shows leave goes shows_again count accepted_mark accepted_back run =
    let m = old.moments.present in
    let put = mark_step name mark old run.0 run.1 is (accepts_by told_mark run.1 run.0.moments.present run.3 accepted_mark) run.2 are in
    let marked_run = run.4 in
    let start = text_shown proof first run.0 marked_run.0 marked_run.1 shown shows marked_run.2 marked_run.3 in
    let ends = split marked_run.0 new turns (back ∷ last ∷ []) told (moved ∷ again ∷ []) count marked_run.4 in
    let keeps = turns_keep name m marked_run.0 ends.0 turns told leave ends.1 (unchanged name m run.0 marked_run.0 start.0 put.0) in
    let returning = ends.2 in
    let there = back_step name m back ends.0 returning.0 returning.1 goes (accepts_by moved returning.1 returning.0.moments.present returning.3 accepted_back) returning.2 keeps in
    let ending = returning.4 in
    let final = text_shown proof last returning.0 ending.0 ending.1 again shows_again ending.2 ending.3 in
    final.1 ∙ ap (solution proof) (there ∙ sym (ap (λ (t : Timeline Moment). t.present) put.1)) ∙ sym start.1
