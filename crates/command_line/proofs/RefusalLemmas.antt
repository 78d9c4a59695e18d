-- Why words are refused.
use Rattle.std.proofs.Common.{◌≡◌, ◌∙◌, true, sym, ap, subst, inl, codes, List, [], Option, Some, Result, Ok, Err, IfOk, IfErr, MatchResult}
use Rattle.clap.specs.Words.{App, HasKind, Row, Text, fault_of, is_simple_and_free, kind_of, takes}
use Rattle.clap.specs.declared.error.Error.{Error}
use Rattle.clap.specs.declared.error.kind.ErrorKind.TheVariants.{OutOfMemory}
use Rattle.command_line.specs.Tasks.{CallCommand, IsNotANumber, IsRefusal, IsWantOfMemory, Names, command_of, program}
use Rattle.command_line.specs.declared.tasks.Task.{Task}
use Rattle.command_line.specs.declared.tasks.Usage.{Usage}
use Rattle.command_line.specs.declared.tasks.Usage.TheVariants.{Words, NotANumber}
use Rattle.command_line.proofs.TakenLemmas.{program_is_free}

pub taken_by : (app : App) (words : List Text) → app ≡ program → (is_simple_and_free app ≡ true → fault_of app words ≡ []) → CallCommand words
taken_by app words same none = subst (λ (a : App). fault_of a words ≡ []) same (none (ap is_simple_and_free same ∙ program_is_free))

pub refused_by_clap : (app : App) (words : List Text) (error : Error) → app ≡ program → (is_simple_and_free app ≡ true → HasKind (fault_of app words) error)
    → (takes app words ≡ true → kind_of error ≡ OutOfMemory) → IsRefusal words (Words error)
refused_by_clap app words error same kinds passes = (
  subst (λ (a : App). HasKind (fault_of a words) error) same (kinds (ap is_simple_and_free same ∙ program_is_free)),
  λ took. passes (ap (λ (a : App). takes a words) same ∙ took),
)

pub refused_for_memory : (words : List Text) (usage : Usage) → IsWantOfMemory usage → IsRefusal words usage
refused_for_memory words (Words error) memory = (inl memory, λ took. memory)
refused_for_memory words NotANumber memory = absurd memory

-- what `session` answers to words that clap takes
module _ (words : List Text) (rows : List Row) (same : command_of words ≡ Some (codes "session", rows)) where
  pub session_named : (answer : Result Task Usage) → MatchResult answer (Names (Some (codes "session", rows))) (IsNotANumber rows) → IfOk answer (Names (command_of words))
  session_named (Ok task) is = subst (λ (used : Option (Text × List Row)). Names used task) (sym same) is
  session_named (Err usage) is = tt

  pub session_refused : (answer : Result Task Usage) → CallCommand words → MatchResult answer (Names (Some (codes "session", rows))) (IsNotANumber rows) → IfErr answer (IsRefusal words)
  session_refused (Ok task) taken is = tt
  session_refused (Err usage) taken is = subst (IsRefusal words) (sym is.0) (taken, rows, same, is.1)

pub taken_if_ok : (words : List Text) (answer : Result Task Usage) → CallCommand words → IfOk answer (λ _. CallCommand words)
taken_if_ok words (Ok task) taken = taken
taken_if_ok words (Err usage) taken = tt
