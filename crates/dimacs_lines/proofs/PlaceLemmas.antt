-- The first place at which a test passes.
use Rattle.std.proofs.Common.{◌≡◌, ℕ, ◌+◌, ◌-◌, ◌<◌, ◌≤◌, Bool, true, false, List, length, drop, get_or, Option, Some, None, refl, sym, arith}
use Rattle.std.proofs.lemmas.List.{get_or-drop, length-drop}
use Rattle.std.specs.Prelude.{unwrap_or}
use Rattle.std.specs.List.{position_or_len}
use Rattle.std.proofs.lemmas.List.Sums.{position_or_len_is}
use Rattle.memchr.specs.Find.{IsFirstByte, is_byte}
use Rattle.dimacs_lines.specs.Lines.{is_line_feed}

-- the first place from one on: none before it passes, and it does or is the end
pub place_from : (test : ℕ → Bool) (bytes : List ℕ) (from at : ℕ) → from ≤ at → at ≤ length bytes → ((k : ℕ) → from ≤ k → k < at → test (get_or bytes k 0) ≡ false)
    → (at < length bytes → test (get_or bytes at 0) ≡ true) → at ≡ from + position_or_len test (drop from bytes)
place_from test bytes from at le within none found =
    let back : from + (at - from) ≡ at = omega arith in
    let place : position_or_len test (drop from bytes) ≡ at - from =
    position_or_len_is test (drop from bytes) (at - from) 0 (omega (arith, length-drop from bytes)) (λ k before. rw (get_or-drop from bytes k 0) (none (from + k) (omega arith) (omega arith))) (λ lt. rw (get_or-drop from bytes (at - from) 0, back) (found (omega (arith, length-drop from bytes)))) in
    omega arith

no_is_false : (test : Bool) → ¬ (test ≡ true) → test ≡ false
no_is_false true fails = absurd (fails refl)
no_is_false false fails = refl

-- the place of the first LF that `memchr` found, or the length where there is none
pub unwrap_or-first : (bytes : List ℕ) (found : Option ℕ) → IsFirstByte (is_byte 10) bytes found → unwrap_or found (length bytes) ≡ position_or_len is_line_feed bytes
unwrap_or-first bytes None nowhere =
    sym (position_or_len_is is_line_feed bytes (length bytes) 0 (omega arith) (λ k before. no_is_false _ (nowhere k (omega arith) before)) (λ within. absurd (omega arith)))
unwrap_or-first bytes (Some place) first =
    sym (position_or_len_is is_line_feed bytes place 0 (omega (arith, first.0.high)) (λ k before. no_is_false _ (first.0.before k (omega arith) before)) (λ _. first.1))
