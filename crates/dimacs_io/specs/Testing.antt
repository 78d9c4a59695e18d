-- What the devices of the tests hold.
use Rattle.std.specs.Prelude.{◌≡◌, ◌⊎◌, ℕ, Bool, ◌-◌, ◌<◌, List, length, min, Option, Some}
use Rattle.std.specs.Option.{option_map}
use Rattle.dimacs_io.specs.declared.device.LastCall.{LastCall}

-- a source over a list: what it still gives and what it has given, how much at most in one call, for how many more calls
-- it does so (none: for all), how many have failed, whether the last did, and whether it came to the end
pub record Scripted : Type 0 where
  pub rest : List ℕ
  pub given : List ℕ
  pub most : ℕ
  pub good_calls : Option ℕ
  pub failures : ℕ
  pub last_failed : Bool
  pub ended : Bool

-- a sink over a list, in the same words, how many flushes went well, and what the last call did
pub record Padded : Type 0 where
  pub bytes : List ℕ
  pub most : ℕ
  pub good_calls : Option ℕ
  pub failures : ℕ
  pub flushes : ℕ
  pub last_call : LastCall

-- one call less, where there is an end to them
abbrev pub one_less : Option ℕ → Option ℕ
one_less calls = option_map (λ n. n - 1) calls

-- how many bytes a source gives for a piece of this length: as many as that, its choice and what is left allow
abbrev pub given_for : Scripted → ℕ → ℕ
given_for script piece = min (min script.most piece) (length script.rest)

-- how many bytes a sink takes of a piece of this length: as many as that, its choice and its room of 4,096 bytes allow
abbrev pub taken_of : Padded → ℕ → ℕ
taken_of pad piece = min (min pad.most piece) (4096 - length pad.bytes)

-- a sink fails at a piece of this length: the good calls are used up, or it is full and the piece is not empty
abbrev pub Refuses : Padded → ℕ → Type 0
Refuses pad piece = (pad.good_calls ≡ Some 0) ⊎ ((length pad.bytes ≡ 4096) × (0 < piece))
