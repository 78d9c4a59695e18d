-- Journals of a table: what stood at the places that were written since.
use Rattle.std.specs.Prelude.{◌≡◌, ℕ, ◌<◌, ◌≤◌, ℤ, List, length, true, false}
use Rattle.residual_graph.specs.Residual.{number_at}
use Rattle.tracked.specs.Marks.{in_set}
use Rattle.tracked.specs.Touched.{AgreeAt}
use Rattle.tracked.specs.declared.journal.Journal.{Journal}

-- each place that can be noted has room for what stood there
abbrev pub IsJournal : Journal → Type 0
IsJournal j = length j.before.items ≡ length j.written

-- the table xs became ys since the journal was cleared: what stood in xs is in the journal where it was written, and is there still elsewhere
pub record IsSince (j : Journal) (xs ys : List ℤ) : Type 0 where
  pub same_length : length ys ≡ length xs
  pub fits : length xs ≤ length j.before.items
  pub elsewhere : (k : ℕ) → in_set j.written k ≡ false → AgreeAt xs ys k
  pub inside : (k : ℕ) → in_set j.written k ≡ true → k < length xs
  pub before : (k : ℕ) → in_set j.written k ≡ true → number_at j.before.items k ≡ number_at xs k

-- journal j begins with any table that journal i had room for
pub record IsCleared (i j : Journal) : Type 0 where
  pub journal : IsJournal j
  pub since : (xs : List ℤ) → length xs ≤ length i.before.items → IsSince j xs xs

-- journal j has what i has, and has noted what stands at a place of the table ys
pub record HasNoted (i j : Journal) (ys : List ℤ) (place : ℕ) : Type 0 where
  pub journal : IsJournal j
  pub room : length j.before.items ≡ length i.before.items
  pub noted : in_set j.written place ≡ true
  pub since : (xs : List ℤ) → IsSince i xs ys → IsSince j xs ys
