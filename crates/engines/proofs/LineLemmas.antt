-- Beginnings, and how much of a piece is taken.
use Rattle.std.proofs.Common.{◌≡◌, ℕ, ◌+◌, ◌<◌, ◌≤◌, Bool, true, false, cond, ltb, length, length-drop, arith, List, [], ◌++◌, take, drop, refl, sym, ap, ◌∙◌, append_assoc, append-nil, take-append-drop}
use Rattle.std.proofs.lemmas.Bool.{ltb-true}
use Rattle.std.proofs.Math.Seq.{take-add}
use Rattle.std.specs.List.{position_or_len}
use Rattle.dimacs_io.specs.Device.{IsBeginning}
use Rattle.dimacs_lines.specs.Cut.{bytes_used, has_line_feed}
use Rattle.dimacs_lines.specs.Lines.{is_line_feed}

pub IsBeginning-trans : {A : Type 0} (xs ys zs : List A) → IsBeginning xs ys → IsBeginning ys zs → IsBeginning xs zs
IsBeginning-trans xs ys zs p q = (p.0 ++ q.0, q.1 ∙ ap (λ l. l ++ q.0) p.1 ∙ append_assoc xs p.0 q.0)

pub IsBeginning-same : {A : Type 0} (xs : List A) → IsBeginning xs xs
IsBeginning-same xs = ([], sym (append-nil xs))

-- ---- a piece that is taken part by part

pub append_take_rest : (text piece : List ℕ) (i : ℕ) → (text ++ take i piece) ++ drop i piece ≡ text ++ piece
append_take_rest text piece i = append_assoc text (take i piece) (drop i piece) ∙ ap (λ l. text ++ l) (take-append-drop i piece)

pub append_take_add : (text piece : List ℕ) (at used : ℕ) → (text ++ take at piece) ++ take used (drop at piece) ≡ text ++ take (at + used) piece
append_take_add text piece at used = append_assoc text (take at piece) (take used (drop at piece)) ∙ ap (λ l. text ++ l) (sym (take-add at used piece))

-- ---- how much of a piece is taken

used_within : (has : Bool) (place n : ℕ) → ltb place n ≡ has → cond has (place + 1) n ≤ n
used_within true place n e = omega (arith, ltb-true place n e)
used_within false place n e = omega arith

used_some : (has : Bool) (place n : ℕ) → 0 < n → 0 < cond has (place + 1) n
used_some true place n h = omega arith
used_some false place n h = h

pub bytes_used-within : (piece : List ℕ) → bytes_used piece ≤ length piece
bytes_used-within piece = used_within (has_line_feed piece) (position_or_len is_line_feed piece) (length piece) refl

pub bytes_used-some : (piece : List ℕ) → 0 < length piece → 0 < bytes_used piece
bytes_used-some piece h = used_some (has_line_feed piece) (position_or_len is_line_feed piece) (length piece) h

-- so much more of it is taken
pub used_more : (piece : List ℕ) (at used : ℕ) → at < length piece → used ≡ bytes_used (drop at piece) → at + used ≤ length piece
used_more piece at used h e = omega (arith, bytes_used-within (drop at piece), length-drop at piece)
