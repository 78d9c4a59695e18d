-- What is told of a sink behind a buffer.
use Rattle.std.specs.Prelude.{ℕ, List, Option}
use Rattle.dimacs_io.specs.declared.device.LastCall.{LastCall}

-- the bytes of its writer, where that tells them, and then those that wait in the buffer; these alone; how many calls have
-- failed, how many flushes went well, and what the last call did
pub record Behind : Type 0 where
  pub contents : Option (List ℕ)
  pub waiting : List ℕ
  pub failures : ℕ
  pub flushes : ℕ
  pub last_call : LastCall
