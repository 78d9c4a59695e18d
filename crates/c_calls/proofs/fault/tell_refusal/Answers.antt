use Rattle.std.proofs.Common.{rules}
use Rattle.c_calls.proofs.fault.tell_refusal.Goals as goal

pub returns-in-Fault : goal.returns-in-Fault
returns-in-Fault c = search rules
