-- How often a sink was flushed.
use Rattle.std.proofs.Common.{◌≡◌, ℕ, ◌+◌, arith, length, List, Result, Ok, Err, sym, subst}
use Rattle.dimacs_io.specs.Device.{CountsFlush, RisesBy}
use Rattle.dimacs_text.specs.Turns.{Turn}
use Rattle.engines.specs.Serving.{FlushesTurns}

pub RisesBy-none : (n old new : ℕ) → n ≡ 0 → new ≡ old → RisesBy n old new
RisesBy-none n old new none same = omega (arith, none, same)

pub RisesBy-more : (m n all a b c : ℕ) → all ≡ m + n → RisesBy m a b → RisesBy n b c → RisesBy all a c
RisesBy-more m n all a b c sum first then = omega (arith, sum, first, then)

-- the flush after the only turn
pub flushes_one : {E : Type 0} (r : Result (Unit {0}) E) (turns : List Turn) (old new : ℕ) → length turns ≡ 1 → CountsFlush r old new → FlushesTurns r turns old new
flushes_one (Ok v) turns old new one counts = subst (λ (n : ℕ). RisesBy n old new) (sym one) counts
flushes_one (Err e) turns old new one counts = (one, counts)
