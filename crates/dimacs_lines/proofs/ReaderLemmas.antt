-- What a reader answers.
use Rattle.std.proofs.Common.{◌≡◌, ℕ, List, ◌++◌, Some, Err}
use Rattle.dimacs_lines.specs.declared.fault.TextFault.{TextFault}
use Rattle.dimacs_lines.specs.declared.fault.TextFault.TheVariants as text_fault
use Rattle.dimacs_lines.specs.Lines.{Line}
use Rattle.dimacs_lines.specs.declared.reader.TextReader.{TextReader}
use Rattle.dimacs_lines.specs.Stream.{Rule, IsDecidedBy}
use Rattle.dimacs_lines.specs.Reader.{Feeds}

pub feeds_failed : {T : Type 0} (rule : Rule) (holds : List Line → T → Type 0) (fault : TextFault) (reader : TextReader T) (text piece : List ℕ) → reader.failure ≡ Some fault → IsDecidedBy rule fault text piece → Feeds rule holds (Err fault) reader (text ++ piece)
feeds_failed rule holds text_fault.Memory reader text piece e t = tt
feeds_failed rule holds (text_fault.Fault number line) reader text piece e t = (t, rw e t)
