-- Tables beside what was kept of them, which differs at noted places alone.
use Rattle.std.specs.Prelude.{◌≡◌, ◌≢◌, ℕ, ◌<◌, ◌≤◌, ◌++◌, ◌∷◌, [], AllPairs, List, Bool, length, take, false, refl}
use Rattle.std.specs.Coded.{Coded, code_by, coded×, coded_ℕ, coded_list}
use Rattle.tracked.specs.Marks.{in_set}
use Rattle.residual_graph.specs.Limits.{row_limit}
use Rattle.tracked.specs.Touched.{AgreeAt, NameChanges}

-- what contracts see of a `Tracked` table: its entries, what the last snapshot kept, that with what was added since behind it, and for how many entries there is room
pub record TrackedView (T : Type 0) : Type 0 where
  pub entries : List T
  pub kept : List T
  pub whole : List T
  pub room : ℕ

-- it is stored as the tuple of its fields
abbrev pub tracked_code : {T : Type 0} → Coded T → Coded (TrackedView T)
tracked_code {T} code =
    code_by
    (List T × (List T × (List T × ℕ)))
    (coded× (coded_list code) (coded× (coded_list code) (coded× (coded_list code) coded_ℕ)))
    (λ t. (t.entries, (t.kept, (t.whole, t.room))))
    (λ p. record { entries = p.0; kept = p.1.0; whole = p.1.1.0; room = p.1.1.1 })
    (λ _. refl)

module _ {T : Type 0} where
  -- what was kept agrees with what stands there wherever nothing is noted; there is a mark for each entry, and room in both tables
  pub record IsTracked (entries whole : List T) (size : ℕ) (marks : List Bool) (entries_room whole_room : ℕ) : Type 0 where
    pub same_length : length whole ≡ length entries
    pub size_in : size ≤ length entries
    pub marked : length entries ≤ length marks
    pub few : length marks ≤ row_limit
    pub entries_fit : length marks ≤ entries_room
    pub whole_fit : length marks ≤ whole_room
    pub elsewhere : (k : ℕ) → in_set marks k ≡ false → AgreeAt whole entries k

  -- entries of the table were written, and nothing else
  pub record IsWritten (l m : TrackedView T) : Type 0 where
    pub kept : m.kept ≡ l.kept
    pub whole : m.whole ≡ l.whole
    pub same_length : length m.entries ≡ length l.entries
    pub same_room : m.room ≡ l.room

  -- a table of the entries xs, all of them kept, with room for so many
  pub record IsFresh (xs : List T) (size : ℕ) (l : TrackedView T) : Type 0 where
    pub entries : l.entries ≡ xs
    pub kept : l.kept ≡ xs
    pub whole : l.whole ≡ xs
    pub room : l.room ≡ size

  -- what was kept stands in the table again; nothing was added since, so nothing is lost
  pub record IsBroughtBack (l m : TrackedView T) : Type 0 where
    pub none_added : l.whole ≡ l.kept
    pub entries : m.entries ≡ l.kept
    pub kept : m.kept ≡ l.kept
    pub whole : m.whole ≡ l.whole
    pub room : m.room ≡ l.room

  -- an entry was added at the end
  pub record IsAppended (value : T) (l m : TrackedView T) : Type 0 where
    pub entries : m.entries ≡ l.entries ++ value ∷ []
    pub kept : m.kept ≡ l.kept
    pub whole : m.whole ≡ l.whole ++ value ∷ []
    pub room : m.room ≡ l.room

  -- the last entry was taken off; what was kept stays, unless this was the last entry of that
  pub record IsTakenOff (last : T) (l m : TrackedView T) : Type 0 where
    pub entries : l.entries ≡ m.entries ++ last ∷ []
    pub kept : length l.kept < length l.entries → m.kept ≡ l.kept
    pub whole : m.whole ≡ take (length m.entries) l.whole
    pub room : m.room ≡ l.room

  -- the places, each once, name each one at which the entries differ from what was kept, and from that with what was added since
  pub record NameAllChanges (places : List ℕ) (l : TrackedView T) : Type 0 where
    pub named : NameChanges 0 places l.kept l.entries
    pub all_named : NameChanges 0 places l.whole l.entries
    pub as_many : length l.whole ≡ length l.entries
    pub apart : AllPairs ◌≢◌ places

  -- the marks, one for each entry that there is room for, mark each place at which the entries differ from what was kept and added
  pub record MarkAllChanges (marks : List Bool) (l : TrackedView T) : Type 0 where
    pub elsewhere : (k : ℕ) → in_set marks k ≡ false → AgreeAt l.whole l.entries k
    pub none_added : length l.kept ≡ length l.entries → l.whole ≡ l.kept
    pub room : length marks ≡ l.room
    pub fits : length l.entries ≤ l.room
