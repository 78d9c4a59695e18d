-- What has come from a source, and what a sink holds.
use Rattle.std.proofs.Common.{◌≡◌, ℕ, Bool, true, false, ◌+◌, ◌-◌, ◌≤◌, List, [], ◌++◌, length, take, drop, Option, None, Some, Result, Ok, Err, inl, inr, refl, sym, ap, ◌∙◌, subst, arith, rules, append_assoc, append-nil, length-append, length-take-le}
use Rattle.std.proofs.lemmas.List.{take_at}
use Rattle.std.specs.Io.KnownBytes.{Appends, Consumes, IsAtEnd}
use Rattle.std.proofs.KnownBytes.{Consumes-nil, Consumes-trans}
use Rattle.dimacs_lines.specs.declared.fault.TextFault.{TextFault}
use Rattle.dimacs_text.specs.Reading.{ProblemValue}
use Rattle.answer_text.specs.declared.answer.Answer.{Answer}
use Rattle.dimacs_lines.specs.declared.fault.TextFault.TheVariants as text_fault
use Rattle.runs.specs.declared.read.ReadError.{ReadError}
use Rattle.runs.specs.declared.read.ReadError.TheVariants as read_error
use Rattle.runs.specs.Devices.{UsesSink, UsesSource, answer_failures, answer_whole, problem_failures, problem_whole}
use Rattle.runs.specs.declared.end.Text.TheVariants as the
use Rattle.runs.specs.declared.end.End.TheVariants.{Memory}
use Rattle.runs.specs.Reading.{CountsRead, FailsLastRead, Gives, GivesAndLogs, IsRead, ReadsKnown, ReadsText, ReadsWhole, error_end, reads_all}
use Rattle.dimacs_io.specs.Device.{text_of}
use Rattle.dimacs_io.specs.declared.device.Sink as sink
use Rattle.dimacs_io.specs.declared.device.Source as source
use Rattle.std.proofs.Math.Seq.{drop-append_seam}

pub Gives-nil : (known : Option (List ℕ)) (left : ℕ) → Gives known known [] left left
Gives-nil known left = record { bytes = Consumes-nil known; count = search rules }

-- a read gave the first n bytes of what stands in the piece
pub Gives-more : (a b c : Option (List ℕ)) (given piece : List ℕ) (n start mid end : ℕ) → Gives a b given start mid → Consumes b c (take n piece)
    → n ≤ length piece → end + n ≡ mid → Gives a c (given ++ take n piece) start end
Gives-more a b c given piece n start mid end so_far more within lower = record {
  bytes = Consumes-trans a b c given (take n piece) so_far.bytes more;
  count = omega (arith, so_far.count, length-append given (take n piece), length-take-le n piece within);
}

-- a read gave none
pub Gives-none : (a b c : Option (List ℕ)) (given piece : List ℕ) (n start mid end : ℕ) → Gives a b given start mid → Consumes b c (take n piece)
    → n ≡ 0 → end + n ≡ mid → Gives a c given start end
Gives-none a b c given piece n start mid end so_far more none lower =
    let nothing : Consumes b c [] = subst (λ k. Consumes b c (take k piece)) none more in
    record {
      bytes = subst (Consumes a c) (append-nil given) (Consumes-trans a b c given [] so_far.bytes nothing);
      count = omega (arith, so_far.count);
    }

-- ---- what a source tells of the bytes that it has given

pub GivesAndLogs-nil : (known : Option (List ℕ)) (left : ℕ) (log : List ℕ) → GivesAndLogs known known [] left left log log
GivesAndLogs-nil known left log = record { gives = Gives-nil known left; log = sym (append-nil log) }

pub GivesAndLogs-more : (a b c : Option (List ℕ)) (given piece : List ℕ) (n start mid end : ℕ) (first second third : List ℕ) → GivesAndLogs a b given start mid first second → Consumes b c (take n piece)
    → n ≤ length piece → end + n ≡ mid → third ≡ second ++ take n piece → GivesAndLogs a c (given ++ take n piece) start end first third
GivesAndLogs-more a b c given piece n start mid end first second third so_far more within lower log = record {
  gives = Gives-more a b c given piece n start mid end so_far.gives more within lower;
  log = log ∙ ap (λ (l : List ℕ). l ++ take n piece) so_far.log ∙ append_assoc first given (take n piece);
}

pub GivesAndLogs-none : (a b c : Option (List ℕ)) (given piece : List ℕ) (n start mid end : ℕ) (first second third : List ℕ) → GivesAndLogs a b given start mid first second → Consumes b c (take n piece)
    → n ≡ 0 → end + n ≡ mid → third ≡ second ++ take n piece → GivesAndLogs a c given start end first third
GivesAndLogs-none a b c given piece n start mid end first second third so_far more none lower log = record {
  gives = Gives-none a b c given piece n start mid end so_far.gives more none lower;
  log = log ∙ ap (λ (k : ℕ). second ++ take k piece) none ∙ append-nil second ∙ so_far.log;
}

-- what is left of the text of a source: none, where the text is what it gave
abbrev pub rest_of : Option (List ℕ) → Option (List ℕ) → Option (List ℕ)
rest_of (Some text) rest = rest
rest_of None rest = Some []

pub IsAtEnd-over : (known rest : Option (List ℕ)) → IsAtEnd rest → IsAtEnd (rest_of known rest)
IsAtEnd-over (Some text) rest end = end
IsAtEnd-over None rest end = refl

-- the text of a source gave what the source gave
pub Gives-over : (known rest : Option (List ℕ)) (given : List ℕ) (left_old left_new : ℕ) (log_old log_new : List ℕ) → GivesAndLogs known rest given left_old left_new log_old log_new
    → Gives (text_of known log_old log_new) (rest_of known rest) given left_old left_new
Gives-over (Some text) rest given left_old left_new log_old log_new hands = hands.gives
Gives-over None rest given left_old left_new log_old log_new hands =
    let came : drop (length log_old) log_new ≡ given = ap (drop (length log_old)) hands.log ∙ drop-append_seam log_old given in
    record { bytes = came ∙ sym (append-nil given); count = hands.gives.count }

-- ---- the text of a source

-- a source that came to its end gave its whole text
pub text_at_end : (text given : List ℕ) (rest : Option (List ℕ)) → Consumes (Some text) rest given → IsAtEnd rest → text ≡ given
text_at_end text given None gave end = absurd gave
text_at_end text given (Some rest) gave end = gave ∙ ap (λ l. given ++ l) end ∙ append-nil given

-- what came are the first bytes of the text
pub text_given : (text given : List ℕ) (rest : Option (List ℕ)) (left_old left_new : ℕ) → Gives (Some text) rest given left_old left_new → take (left_old - left_new) text ≡ given
text_given text given None left_old left_new gives = absurd gives.bytes
text_given text given (Some rest) left_old left_new gives =
    let count : left_old - left_new ≡ length given = omega (arith, gives.count) in
    rw (count, gives.bytes) (take_at given rest (length given) refl)

-- all of the text came
pub all_given : (text given : List ℕ) (rest : Option (List ℕ)) (left_old left_new : ℕ) → Gives (Some text) rest given left_old left_new → IsAtEnd rest → take (left_old - left_new) text ≡ text
all_given text given rest left_old left_new gives end = text_given text given rest left_old left_new gives ∙ sym (text_at_end text given rest gives.bytes end)

-- ---- what is read of a text that is known

module _ {X : Type 0} (decides : List ℕ → Option TextFault) (reads : List ℕ → Result X TextFault) (always : (text more : List ℕ) (f : TextFault) → decides text ≡ Some f → reads (text ++ more) ≡ Err f) where
  -- a fault that is decided stays
  reads_decided : (text given : List ℕ) (rest : Option (List ℕ)) (f : TextFault) → Consumes (Some text) rest given → decides given ≡ Some f → reads text ≡ Err f
  reads_decided text given None f gave e = absurd gave
  reads_decided text given (Some rest) f gave e = rw gave (always given rest f e)

  reads_whole : (result : Result X ReadError) (text given : List ℕ) (rest : Option (List ℕ)) (ended : Bool) (left_old left_new : ℕ) → Gives (Some text) rest given left_old left_new
      → ReadsText decides reads result given rest ended → ReadsWhole decides reads result text (take (left_old - left_new) text)
  reads_whole (Ok x) text given rest ended left_old left_new gives is =
      (all_given text given rest left_old left_new gives is.0.0, ap reads (text_at_end text given rest gives.bytes is.0.0) ∙ is.1)
  reads_whole (Err (read_error.Text text_fault.Memory)) text given rest ended left_old left_new gives is = tt
  reads_whole (Err (read_error.Text (text_fault.Fault number line))) text given rest ended left_old left_new gives (inl is) = reads_decided text given rest _ gives.bytes is
  reads_whole (Err (read_error.Text (text_fault.Fault number line))) text given rest ended left_old left_new gives (inr is) = ap reads (text_at_end text given rest gives.bytes is.0.0) ∙ is.1
  reads_whole (Err read_error.Source) text given rest ended left_old left_new gives is = ap decides (text_given text given rest left_old left_new gives) ∙ is

  ReadsText-over : (result : Result X ReadError) (known rest : Option (List ℕ)) (ended : Bool) (given : List ℕ) → ReadsText decides reads result given rest ended → ReadsText decides reads result given (rest_of known rest) ended
  ReadsText-over (Ok x) known rest ended given is = ((IsAtEnd-over known rest is.0.0, is.0.1), is.1)
  ReadsText-over (Err (read_error.Text text_fault.Memory)) known rest ended given is = tt
  ReadsText-over (Err (read_error.Text (text_fault.Fault number line))) known rest ended given (inl is) = inl is
  ReadsText-over (Err (read_error.Text (text_fault.Fault number line))) known rest ended given (inr is) = inr ((IsAtEnd-over known rest is.0.0, is.0.1), is.1)
  ReadsText-over (Err read_error.Source) known rest ended given is = is

  reads_some : (result : Result X ReadError) (text rest : Option (List ℕ)) (ended : Bool) (given : List ℕ) (left_old left_new : ℕ) → Gives text rest given left_old left_new
      → ReadsText decides reads result given rest ended → ReadsKnown decides reads result text (left_old - left_new)
  reads_some result None rest ended given left_old left_new gives is = tt
  reads_some result (Some text) rest ended given left_old left_new gives is = reads_whole result text given rest ended left_old left_new gives is

  pub reads_known : (result : Result X ReadError) (known rest : Option (List ℕ)) (ended : Bool) (left_old left_new : ℕ) (log_old log_new : List ℕ)
      → (given : List ℕ) × GivesAndLogs known rest given left_old left_new log_old log_new × ReadsText decides reads result given rest ended
      → ReadsKnown decides reads result (text_of known log_old log_new) (left_old - left_new)
  reads_known result known rest ended left_old left_new log_old log_new read =
      reads_some result (text_of known log_old log_new) (rest_of known rest) ended read.0 left_old left_new
      (Gives-over known rest read.0 left_old left_new log_old log_new read.1) (ReadsText-over result known rest ended read.0 read.2)

  text_ended : (result : Result X ReadError) (rest : Option (List ℕ)) (ended : Bool) (given : List ℕ) → ReadsText decides reads result given rest ended → reads_all result ≡ true → ended ≡ true
  text_ended (Ok x) rest ended given is all = is.0.1
  text_ended (Err error) rest ended given is all = absurd cc

  pub is_read : (result : Result X ReadError) (known rest : Option (List ℕ)) (ended : Bool) (left_old left_new : ℕ) (log_old log_new : List ℕ)
      → (given : List ℕ) × GivesAndLogs known rest given left_old left_new log_old log_new × ReadsText decides reads result given rest ended
      → IsRead (reads_all result) log_old log_new ended
  is_read result known rest ended left_old left_new log_old log_new read = record {
    grows = (read.0, read.1.log);
    ends = text_ended result rest ended read.0 read.2;
  }

-- ---- what a run says of the texts that it read

-- a text that was read to its end was read as far as the run says
pub IsRead-whole : (whole : Bool) (old new : List ℕ) (ended : Bool) → IsRead true old new ended → IsRead whole old new ended
IsRead-whole whole old new ended read = record { grows = read.grows; ends = λ _. read.ends refl }

-- no more was read
pub IsRead-none : (whole : Bool) (log : List ℕ) (ended : Bool) → whole ≡ false → IsRead whole log log ended
IsRead-none whole log ended none = record { grows = ([], sym (append-nil log)); ends = λ all. absurd cc }

-- ---- the bytes that were written

pub appended : (held written : List ℕ) (after : Option (List ℕ)) → Appends (Some held) after written → after ≡ Some (held ++ written)
appended held written None more = absurd more
appended held written (Some all) more = ap (λ l. Some l) more

-- ---- what a run did to a source

module _ {S : Type 0} (device : source.Ghosts S) where
  -- a text that was read to its end, of which no read failed
  pub UsesSource-whole : (whole : Bool) (failures : ℕ) (old new : S) → failures ≡ 0 → UsesSource device true 0 old new → UsesSource device whole failures old new
  UsesSource-whole whole failures old new none used = record {
    read = IsRead-whole whole _ _ _ used.read;
    failed = omega (arith, none, used.failed);
    last = λ one. absurd (omega (arith, none, one));
  }

  -- no call was made
  pub UsesSource-none : (whole : Bool) (failures : ℕ) (old : S) → whole ≡ false → failures ≡ 0 → UsesSource device whole failures old old
  UsesSource-none whole failures old unread none = record {
    read = IsRead-none whole _ _ unread;
    failed = omega (arith, none);
    last = λ one. absurd (omega (arith, none, one));
  }

  -- the problem was read
  pub UsesSource-read : (old new : S) → IsRead true (device.given old) (device.given new) (device.ended new) → device.failures new ≡ device.failures old → UsesSource device true 0 old new
  UsesSource-read old new read same = record { read = read; failed = omega (arith, same); last = λ one. absurd (omega (arith, one)) }

  -- the reading of the problem ended the run
  pub UsesSource-problem : (e : ReadError) (old new : S) → IsRead false (device.given old) (device.given new) (device.ended new)
      → CountsRead {X = ProblemValue} (Err e) (device.failures old) (device.failures new) → FailsLastRead {X = ProblemValue} (Err e) (device.last_failed new)
      → UsesSource device (problem_whole (error_end the.Problem e)) (problem_failures (error_end the.Problem e)) old new
  UsesSource-problem (read_error.Text text_fault.Memory) old new read counts last =
      record { read = read; failed = omega (arith, counts); last = λ one. absurd (omega (arith, one)) }
  UsesSource-problem (read_error.Text (text_fault.Fault number line)) old new read counts last =
      record { read = read; failed = omega (arith, counts); last = λ one. absurd (omega (arith, one)) }
  UsesSource-problem read_error.Source old new read counts last = record { read = read; failed = counts; last = λ one. last }

  -- and nothing was read of the answer
  pub UsesSource-no_answer : (e : ReadError) (old : S) → UsesSource device (answer_whole (error_end the.Problem e)) (answer_failures (error_end the.Problem e)) old old
  UsesSource-no_answer (read_error.Text text_fault.Memory) old = UsesSource-none false 0 old refl refl
  UsesSource-no_answer (read_error.Text (text_fault.Fault number line)) old = UsesSource-none false 0 old refl refl
  UsesSource-no_answer read_error.Source old = UsesSource-none false 0 old refl refl

  -- the reading of the answer ended the run
  pub UsesSource-answer : (e : ReadError) (old new : S) → IsRead false (device.given old) (device.given new) (device.ended new)
      → CountsRead {X = Answer} (Err e) (device.failures old) (device.failures new) → FailsLastRead {X = Answer} (Err e) (device.last_failed new)
      → UsesSource device (answer_whole (error_end the.Answer e)) (answer_failures (error_end the.Answer e)) old new
  UsesSource-answer (read_error.Text text_fault.Memory) old new read counts last =
      record { read = read; failed = omega (arith, counts); last = λ one. absurd (omega (arith, one)) }
  UsesSource-answer (read_error.Text (text_fault.Fault number line)) old new read counts last =
      record { read = read; failed = omega (arith, counts); last = λ one. absurd (omega (arith, one)) }
  UsesSource-answer read_error.Source old new read counts last = record { read = read; failed = counts; last = λ one. last }

  -- before that the problem was read
  pub UsesSource-problem_before : (e : ReadError) (old new : S) → UsesSource device true 0 old new
      → UsesSource device (problem_whole (error_end the.Answer e)) (problem_failures (error_end the.Answer e)) old new
  UsesSource-problem_before (read_error.Text text_fault.Memory) old new used = UsesSource-whole false 0 old new refl used
  UsesSource-problem_before (read_error.Text (text_fault.Fault number line)) old new used = used
  UsesSource-problem_before read_error.Source old new used = used

-- ---- what a run did to a sink

module _ {O : Type 0} (device : sink.Ghosts O) where
  -- no call was made: memory was refused before
  pub UsesSink-memory : (out : O) → UsesSink device Memory out out
  UsesSink-memory out = record { failed = omega arith; last = refl }

  -- or the reading of the problem ended the run
  pub UsesSink-problem : (e : ReadError) (out : O) → UsesSink device (error_end the.Problem e) out out
  UsesSink-problem (read_error.Text text_fault.Memory) out = UsesSink-memory out
  UsesSink-problem (read_error.Text (text_fault.Fault number line)) out = record { failed = omega arith; last = refl }
  UsesSink-problem read_error.Source out = record { failed = omega arith; last = refl }

  -- or that of the answer
  pub UsesSink-answer : (e : ReadError) (out : O) → UsesSink device (error_end the.Answer e) out out
  UsesSink-answer (read_error.Text text_fault.Memory) out = UsesSink-memory out
  UsesSink-answer (read_error.Text (text_fault.Fault number line)) out = record { failed = omega arith; last = refl }
  UsesSink-answer read_error.Source out = record { failed = omega arith; last = refl }
