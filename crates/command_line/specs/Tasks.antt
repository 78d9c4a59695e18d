-- The commands of the program, and the task that the matches of a command line name.
use Rattle.std.specs.Prelude.{◌≡◌, ◌↔◌, ◌⊎◌, ◌<◌, ◌≤◌, ℕ, pos, true, List, [], Option, Some, MatchOption, codes, length, option_map}
use Rattle.std.specs.Str.Parse.{IsNumeral, digits_value}
use Rattle.clap.specs.Simple.{on_top}
use Rattle.clap.specs.Words.{App, HasKind, Row, Rule, Text, fault_of, first_of, kind_of, one_of, new_app, new_rule, subcommand_of, takes, with_rule, with_subcommand}
use Rattle.clap.specs.declared.builder.ArgAction.TheVariants.{Set, SetTrue}
use Rattle.clap.specs.declared.builder.value_parser.ValueParser.TheVariants as parser
use Rattle.clap.specs.declared.error.kind.ErrorKind.TheVariants.{OutOfMemory}
use Rattle.dimacs_lines.specs.declared.numbers.TheConstants.{DIGIT_LIMIT}
use Rattle.command_line.specs.declared.tasks.Task.{Task}
use Rattle.command_line.specs.declared.tasks.Task.TheVariants.{Solve, Session, Check}
use Rattle.command_line.specs.declared.tasks.Usage.{Usage}
use Rattle.command_line.specs.declared.tasks.Usage.TheVariants.{Words, NotANumber}

-- `--proof`
abbrev pub proof_rule : Rule
proof_rule = record (new_rule (codes "proof")) { long = Some (codes "proof"); action = Some SetTrue }

-- `--extra N`, with N up to 100,000
abbrev pub extra_rule : Rule
extra_rule = record (new_rule (codes "extra")) { long = Some (codes "extra"); value_names = 1; action = Some Set; parser = Some (parser.Signed (pos 0) (pos 100000)) }

-- a file that may be left out
abbrev pub file_rule : Rule
file_rule = record (new_rule (codes "file")) { value_names = 1; action = Some Set }

-- a file that has to be named
abbrev pub needed_rule : Text → Rule
needed_rule id = record (new_rule id) { value_names = 1; action = Some Set; required = true }

-- `solve [--proof] [FILE]`
abbrev pub solve_command : App
solve_command = with_rule (with_rule (new_app (codes "solve")) proof_rule) file_rule

-- `session [--extra N] PROBLEM`
abbrev pub session_command : App
session_command = with_rule (with_rule (new_app (codes "session")) extra_rule) (needed_rule (codes "problem"))

-- `check PROBLEM ANSWER`
abbrev pub check_command : App
check_command = with_rule (with_rule (new_app (codes "check")) (needed_rule (codes "problem"))) (needed_rule (codes "answer"))

-- `mcf`, which has a version and asks for a command
abbrev pub bare_program : App
bare_program = on_top (λ top. record top { has_version = true; subcommand_required = true }) (new_app (codes "mcf"))

-- `mcf` with its commands
abbrev pub program : App
program = with_subcommand (with_subcommand (with_subcommand bare_program solve_command.top) session_command.top) check_command.top

-- the name and the matches of the command that the words name
abbrev pub command_of : List Text → Option (Text × List Row)
command_of words = subcommand_of program words

-- the number that a word says as in a text, by 1 to 18 digits, and 1,000 where there is none
abbrev pub IsExtra : Option Text → ℕ → Type 0
IsExtra said extra = MatchOption said (extra ≡ 1000) (λ word. IsNumeral 10 word × (length word ≤ DIGIT_LIMIT) × (extra ≤ 100000) × (extra ≡ digits_value 10 word))

-- the name and the matches of a command say this task
abbrev pub Names : Option (Text × List Row) → Task → Type 0
Names used (Solve proof file) = (rows : List Row) × (used ≡ Some (codes "solve", rows))
    × ((proof ≡ true) ↔ (one_of (codes "proof") rows ≡ Some (codes "true"))) × (option_map (λ f. f.now) file ≡ first_of (codes "file") rows)
Names used (Session problem extra) = (rows : List Row) × (used ≡ Some (codes "session", rows))
    × (first_of (codes "problem") rows ≡ Some problem.now) × IsExtra (first_of (codes "extra") rows) extra
Names used (Check problem answer) = (rows : List Row) × (used ≡ Some (codes "check", rows))
    × (first_of (codes "problem") rows ≡ Some problem.now) × (first_of (codes "answer") rows ≡ Some answer.now)

-- it is not of digits alone, has more than 18 of them, or says more than 100,000
abbrev pub IsNoNumber : Text → Type 0
IsNoNumber word = (IsNumeral 10 word → ⊥) ⊎ ((DIGIT_LIMIT < length word) ⊎ (100000 < digits_value 10 word))

-- the word of `--extra` is no number as in a text; of such words `clap` takes those with a sign, as `+5` and `-0`, and
-- those with many zeros in front
abbrev pub SaysNoNumber : List Row → Type 0
SaysNoNumber rows = (word : Text) × (first_of (codes "extra") rows ≡ Some word) × IsNoNumber word

-- a session is refused for that
abbrev pub IsNotANumber : List Row → Usage → Type 0
IsNotANumber rows usage = (usage ≡ NotANumber) × SaysNoNumber rows

-- `clap` finds no fault in the words, and no call for help or the version
abbrev pub CallCommand : List Text → Type 0
CallCommand words = fault_of program words ≡ []

abbrev pub IsWantOfMemory : Usage → Type 0
IsWantOfMemory (Words error) = kind_of error ≡ OutOfMemory
IsWantOfMemory NotANumber = ⊥

-- words are refused by a kind of what `clap` finds, or where memory is; words in which it finds nothing only where
-- memory is, or where the number of `--extra` is none in a text
abbrev pub IsRefusal : List Text → Usage → Type 0
IsRefusal words (Words error) = HasKind (fault_of program words) error × (takes program words ≡ true → kind_of error ≡ OutOfMemory)
IsRefusal words NotANumber = CallCommand words × (rows : List Row) × (command_of words ≡ Some (codes "session", rows)) × SaysNoNumber rows
