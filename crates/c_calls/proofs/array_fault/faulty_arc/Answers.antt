use Rattle.std.proofs.Common.{rules}
use Rattle.c_calls.proofs.array_fault.faulty_arc.Goals as goal

pub returns-in-Err : goal.returns-in-Err
returns-in-Err c = search rules
