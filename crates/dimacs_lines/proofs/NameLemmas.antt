-- The names of marks.
use Rattle.std.proofs.Common.{◌≡◌, ℕ, ◌-◌, ◌≤◌, Bool, true, List, length, take, replicate, Option, Some, ap}
use Rattle.std.specs.List.{list_all}
use Rattle.std.proofs.lemmas.Bool.{le-leb}
use Rattle.std.proofs.Math.Seq.{take-append_seam}
use Rattle.dimacs_lines.specs.declared.name.TheConstants.{NAME_LIMIT}
use Rattle.dimacs_lines.specs.Name.{filled, is_letter, is_name, name_of}

pub name_by_letters : (word : List ℕ) (letters : Bool) → 1 ≤ length word → length word ≤ NAME_LIMIT → letters ≡ list_all is_letter word → letters ≡ is_name word
name_by_letters word letters some few e = rw (le-leb 1 (length word) some, le-leb (length word) NAME_LIMIT few) e

pub named : (word places : List ℕ) → is_name word ≡ true → places ≡ filled word → ◌≡◌ {A = Option (List ℕ)} (Some (take (length word) places)) (name_of word)
named word places e same = rw (same, e) (ap Some (take-append_seam word (replicate (NAME_LIMIT - length word) 0)))
