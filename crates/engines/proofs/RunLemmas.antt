-- Runs that go on by one line, and what was written of them.
use Rattle.std.proofs.Common.{◌≡◌, ℕ, Bool, true, false, cond, List, [], ◌∷◌, ◌++◌, filter, length, ◌+◌, Option, None, Some, Result, Ok, Err, is_err, refl, sym, ap, ◌∙◌, subst, append-nil, length-append}
use Rattle.std.proofs.lemmas.Bool.{false≢true}
use Rattle.std.specs.List.{concat}
use Rattle.std.proofs.lemmas.List.Folds.{concat-append}
use Rattle.std.proofs.lemmas.List.Sums.{fold-append}
use Rattle.std.proofs.lemmas.List.Elements.{filter-append}
use Rattle.std.specs.Io.KnownBytes.{Appends}
use Rattle.std.proofs.KnownBytes.{Appends-nil, Appends-trans}
use Rattle.dimacs_io.specs.Device.{IsBeginning, AppendsBeginning, RisesBy}
use Rattle.dimacs_io.proofs.DeviceLemmas.{AppendsBeginning-after}
use Rattle.dimacs_text.specs.Command.{opens_group, ends_group}
use Rattle.dimacs_lines.specs.Cut.{Cut, CutsLine}
use Rattle.dimacs_text.specs.Group.{Gathered}
use Rattle.dimacs_lines.specs.Lines.{Line, last_line, lines_of, parts_of}
use Rattle.dimacs_lines.specs.Fields.{words_of}
use Rattle.dimacs_text.specs.Turns.{Turn, Turns, and_inside, and_outside, and_turn, and_turn_by, no_turns, turns_of}
use Rattle.session.specs.Step.{SessionState}
use Rattle.session.specs.Turns.{asks, gathered_in, turns_by}
use Rattle.engines.specs.Run.{Answers, AnswersTurns, Run, reply_count, turns_in}
use Rattle.engines.specs.Serving.{Answered, AnswersAll, AnswersLine, GoesOn, Output, ServesLine, Stands, Stopped}
use Rattle.engines.proofs.FlushLemmas.{RisesBy-more, RisesBy-none}
use Rattle.engines.proofs.LineLemmas.{IsBeginning-same, IsBeginning-trans}

-- ---- the turns of one line more

-- turns, and those that come after them
abbrev followed : Turns → Turns → Turns
followed turns next = record { whole = turns.whole ++ next.whole; opened = next.opened }

outside : (opens : Bool) (whole : List Turn) (line : Line) → and_outside opens whole line ≡ followed (record { whole = whole; opened = None }) (and_outside opens [] line)
outside true whole line = ap (λ (turns : List Turn). record { whole = turns; opened = Some [] }) (sym (append-nil whole))
outside false whole line = refl

inside : (ends : Bool) (whole : List Turn) (lines : List Line) (line : Line)
    → and_inside ends whole lines line ≡ followed (record { whole = whole; opened = Some lines }) (and_inside ends [] lines line)
inside true whole lines line = refl
inside false whole lines line = ap (λ (turns : List Turn). record { whole = turns; opened = Some (lines ++ line ∷ []) }) (sym (append-nil whole))

one_more : (opened : Option (List Line)) (whole : List Turn) (line : Line)
    → and_turn_by opened whole line ≡ followed (record { whole = whole; opened = opened }) (and_turn_by opened [] line)
one_more None whole line = outside (opens_group line) whole line
one_more (Some lines) whole line = inside (ends_group line) whole lines line

more_by : (asked : Bool) (lines : List Line) (line : Line) → asks line ≡ asked
    → turns_in (lines ++ line ∷ []) ≡ followed (turns_in lines) (cond asked (and_turn_by (turns_in lines).opened [] line) (record { whole = []; opened = (turns_in lines).opened }))
more_by true lines line e =
    let kept_lines : filter asks (lines ++ line ∷ []) ≡ filter asks lines ++ line ∷ [] =
    filter-append asks lines (line ∷ []) ∙ ap (λ b. filter asks lines ++ cond b (line ∷ []) []) e in
    ap turns_of kept_lines ∙ fold-append and_turn no_turns (filter asks lines) (line ∷ []) ∙ one_more (turns_in lines).opened (turns_in lines).whole line
more_by false lines line e =
    let kept_lines : filter asks (lines ++ line ∷ []) ≡ filter asks lines =
    filter-append asks lines (line ∷ []) ∙ ap (λ b. filter asks lines ++ cond b (line ∷ []) []) e ∙ append-nil (filter asks lines) in
    ap turns_of kept_lines ∙ ap (λ (turns : List Turn). record { whole = turns; opened = (turns_in lines).opened }) (sym (append-nil (turns_in lines).whole))

turns_in-push : (lines : List Line) (line : Line) → turns_in (lines ++ line ∷ []) ≡ followed (turns_in lines) (turns_by (turns_in lines).opened line)
turns_in-push lines line = more_by (asks line) lines line refl

reply_count-push : (lines : List Line) (line : Line) → reply_count (lines ++ line ∷ []) ≡ reply_count lines + length (turns_by (turns_in lines).opened line).whole
reply_count-push lines line =
    ap (λ (turns : Turns). length turns.whole) (turns_in-push lines line) ∙ length-append (turns_in lines).whole (turns_by (turns_in lines).opened line).whole

-- ---- one run after another

Run-join : (turns more : List Turn) (texts next : List (List ℕ)) (first mid last : SessionState) → Run first turns texts mid → Run mid more next last
    → Run first (turns ++ more) (texts ++ next) last
Run-join [] more [] next first mid last run then = subst (λ s. Run s more next last) run then
Run-join (turn ∷ turns) more (text ∷ texts) next first mid last run then =
    (run.0, run.1, run.2, run.3, Run-join turns more texts next run.0 mid last run.4 then)
Run-join _ more _ next first mid last run then = absurd run

AnswersTurns-join : (turns more : List Turn) (written text : List ℕ) (first mid last : SessionState) → AnswersTurns first turns written mid → AnswersTurns mid more text last
    → AnswersTurns first (turns ++ more) (written ++ text) last
AnswersTurns-join turns more written text first mid last so_far then = record {
  texts = so_far.texts ++ then.texts;
  run = Run-join turns more so_far.texts then.texts first mid last so_far.run then.run;
  written_is = ap (λ l. l ++ text) so_far.written_is ∙ ap (λ l. concat so_far.texts ++ l) then.written_is ∙ sym (concat-append so_far.texts then.texts);
}

pub Answers-more : (lines : List Line) (line : Line) (written text : List ℕ) (first mid last : SessionState) → Answers first lines written mid
    → AnswersLine mid (turns_in lines).opened line text last → Answers first (lines ++ line ∷ []) (written ++ text) last
Answers-more lines line written text first mid last so_far then =
    subst (λ (turns : Turns). AnswersTurns first turns.whole (written ++ text) last) (sym (turns_in-push lines line))
    (AnswersTurns-join (turns_in lines).whole (turns_by (turns_in lines).opened line).whole written text first mid last so_far then)

-- the group that stands open after one line more
pub gathered_in-more : (lines : List Line) (line : Line) (last : SessionState) (group : Option Gathered)
    → group ≡ gathered_in last (turns_by (turns_in lines).opened line).opened → group ≡ gathered_in last (turns_in (lines ++ line ∷ [])).opened
gathered_in-more lines line last group e = e ∙ ap (λ (turns : Turns). gathered_in last turns.opened) (sym (turns_in-push lines line))

pub Answered-more : (first mid last : SessionState) (lines : List Line) (line : Line) (text : List ℕ) (before now after : Output)
    → Answered first lines mid before now → AnswersLine mid (turns_in lines).opened line text last → Appends now.contents after.contents text
    → RisesBy (length (turns_by (turns_in lines).opened line).whole) now.flushes after.flushes → Answered first (lines ++ line ∷ []) last before after
Answered-more first mid last lines line text before now after done step more flushes = record {
  written = done.written ++ text;
  answers = Answers-more lines line done.written text first mid last done.answers step;
  appends = Appends-trans before.contents now.contents after.contents done.written text done.appends more;
  flushed = RisesBy-more (reply_count lines) _ _ before.flushes now.flushes after.flushes (reply_count-push lines line) done.flushed flushes;
}

pub Stopped-more : (first mid last : SessionState) (lines : List Line) (line : Line) (text : List ℕ) (before now after : Output)
    → Answered first lines mid before now → AnswersLine mid (turns_in lines).opened line text last → AppendsBeginning now.contents after.contents text
    → (length (turns_by (turns_in lines).opened line).whole ≡ 1) × (after.flushes ≡ now.flushes) → Stopped first (lines ++ line ∷ []) before after
Stopped-more first mid last lines line text before now after done step part turn = record {
  front = lines ++ line ∷ [];
  begins = IsBeginning-same (lines ++ line ∷ []);
  whole = done.written ++ text;
  last = last;
  answers = Answers-more lines line done.written text first mid last done.answers step;
  appends = AppendsBeginning-after before.contents now.contents after.contents done.written text done.appends part;
  flushes = reply_count lines;
  count = reply_count-push lines line ∙ ap (λ (n : ℕ). reply_count lines + n) turn.0;
  flushed = subst (λ (n : ℕ). RisesBy (reply_count lines) before.flushes n) (sym turn.1) done.flushed;
}

-- what a failed call stopped is stopped too where more lines come
pub Stopped-longer : (first : SessionState) (short long : List Line) (before after : Output) → IsBeginning short long → Stopped first short before after
    → Stopped first long before after
Stopped-longer first short long before after more stop = record {
  front = stop.front;
  begins = IsBeginning-trans stop.front short long stop.begins more;
  whole = stop.whole;
  last = stop.last;
  answers = stop.answers;
  appends = stop.appends;
  flushes = stop.flushes;
  count = stop.count;
  flushed = stop.flushed;
}

pub Stopped-append : (first : SessionState) (text more all : List ℕ) (before after : Output) → text ++ more ≡ all → IsBeginning (parts_of text).ended (parts_of (text ++ more)).ended → Stopped first (parts_of text).ended before after
    → Stopped first (parts_of all).ended before after
Stopped-append first text more all before after e stay stop =
    rw (← e) (Stopped-longer first (parts_of text).ended (parts_of (text ++ more)).ended before after stay stop)

-- ---- a session that begins, and goes on by a part of a piece

pub Stands-begin : (first : SessionState) (known : Output) → Stands first [] first None (record { line = Some []; complete = false }) known known
unfolding parts_of
Stands-begin first known = record {
  answered = record {
    written = [];
    answers = record { texts = []; run = refl; written_is = refl };
    appends = Appends-nil known.contents;
    flushed = RisesBy-none _ _ _ refl refl;
  };
  gathers = refl;
  holds = refl;
}

-- bytes came that end no line
pub Stands-partial : (first present : SessionState) (group : Option Gathered) (given longer : List ℕ) (old new : Cut) (before now : Output)
    → Stands first given present group old before now → CutsLine old new false given longer → Stands first longer present group new before now
Stands-partial first present group given longer old new before now done cuts = record {
  answered = subst (λ (lines : List Line). Answered first lines present before now) (sym cuts.ended) done.answered;
  gathers = subst (λ (lines : List Line). group ≡ gathered_in present (turns_in lines).opened) (sym cuts.ended) done.gathers;
  holds = cuts.rest;
}

-- a line was ended and served
pub GoesOn-complete : {E : Type 0} (r : Result (Unit {0}) E) (first mid last : SessionState) (group : Option Gathered) (given longer : List ℕ) (old new : Cut) (before now after : Output)
    → Answered first (parts_of given).ended mid before now → (cuts : CutsLine old new true given longer)
    → ServesLine r mid (turns_in (parts_of given).ended).opened cuts.line last group now after → GoesOn r first longer last group new before after
GoesOn-complete (Ok v) first mid last group given longer old new before now after done cuts served = record {
  answered = subst (λ (lines : List Line). Answered first lines last before after) (sym cuts.ended)
      (Answered-more first mid last (parts_of given).ended cuts.line served.text before now after done served.answers served.writes served.flushed);
  gathers = subst (λ (lines : List Line). group ≡ gathered_in last (turns_in lines).opened) (sym cuts.ended)
      (gathered_in-more (parts_of given).ended cuts.line last group served.holds);
  holds = cuts.rest;
}
GoesOn-complete (Err e) first mid last group given longer old new before now after done cuts served =
    subst (λ (lines : List Line). Stopped first lines before after) (sym cuts.ended)
    (Stopped-more first mid last (parts_of given).ended cuts.line served.text before now after done served.answers served.writes served.flushed)

-- ---- the end of the commands

asked_at_end : (ended : List Line) (rest : Line) → filter asks (ended ++ rest ∷ []) ≡ filter asks (ended ++ last_line rest)
unfolding words_of
asked_at_end ended [] = filter-append asks ended ([] ∷ []) ∙ sym (filter-append asks ended [])
asked_at_end ended (byte ∷ rest) = refl

Answers-end : (first last : SessionState) (given written : List ℕ) → Answers first ((parts_of given).ended ++ (parts_of given).rest ∷ []) written last → Answers first (lines_of given) written last
Answers-end first last given written all = record {
  texts = all.texts;
  run = subst (λ (lines : List Line). Run first (turns_of lines).whole all.texts last) (asked_at_end (parts_of given).ended (parts_of given).rest) all.run;
  written_is = all.written_is;
}

reply_count-end : (given : List ℕ) → reply_count ((parts_of given).ended ++ (parts_of given).rest ∷ []) ≡ reply_count (lines_of given)
reply_count-end given = ap (λ (lines : List Line). length (turns_of lines).whole) (asked_at_end (parts_of given).ended (parts_of given).rest)

-- the last line was served
pub AnswersAll-served : {E : Type 0} (r : Result (Unit {0}) E) (first mid last : SessionState) (group : Option Gathered) (given : List ℕ) (before now after : Output)
    → Answered first (parts_of given).ended mid before now → ServesLine r mid (turns_in (parts_of given).ended).opened (parts_of given).rest last group now after
    → AnswersAll r first given last before after
AnswersAll-served (Ok v) first mid last group given before now after done served =
    let all = Answered-more first mid last (parts_of given).ended (parts_of given).rest served.text before now after done served.answers served.writes served.flushed in
    record {
      written = all.written;
      answers = Answers-end first last given all.written all.answers;
      appends = all.appends;
      flushed = subst (λ (n : ℕ). RisesBy n before.flushes after.flushes) (reply_count-end given) all.flushed;
    }
AnswersAll-served (Err e) first mid last group given before now after done served =
    let whole = Answers-more (parts_of given).ended (parts_of given).rest done.written served.text first mid last done.answers served.answers in
    let longer = reply_count-push (parts_of given).ended (parts_of given).rest ∙ ap (λ (n : ℕ). reply_count (parts_of given).ended + n) served.flushed.0 in
    record {
      front = lines_of given;
      begins = IsBeginning-same (lines_of given);
      whole = done.written ++ served.text;
      last = last;
      answers = Answers-end first last given (done.written ++ served.text) whole;
      appends = AppendsBeginning-after before.contents now.contents after.contents done.written served.text done.appends served.writes;
      flushes = reply_count (parts_of given).ended;
      count = sym (reply_count-end given) ∙ longer;
      flushed = subst (λ (n : ℕ). RisesBy (reply_count (parts_of given).ended) before.flushes n) (sym served.flushed.1) done.flushed;
    }

-- there was none
pub Answered-none : (first last : SessionState) (given : List ℕ) (before now : Output) → (parts_of given).rest ≡ []
    → Answered first (parts_of given).ended last before now → Answered first (lines_of given) last before now
Answered-none first last given before now none done =
    let all : lines_of given ≡ (parts_of given).ended = ap (λ (rest : Line). (parts_of given).ended ++ last_line rest) none ∙ append-nil (parts_of given).ended in
    subst (λ (lines : List Line). Answered first lines last before now) (sym all) done

-- ---- a call by its result

pub ok_from : {T E : Type 0} (r : Result T E) → is_err r ≡ false → (v : T) × (r ≡ Ok v)
ok_from (Ok v) fine = (v, refl)
ok_from (Err e) fine = absurd (false≢true (sym fine))

pub err_from : {T E : Type 0} (r : Result T E) → is_err r ≡ true → (e : E) × (r ≡ Err e)
err_from (Ok v) failed = absurd (false≢true failed)
err_from (Err e) failed = (e, refl)
