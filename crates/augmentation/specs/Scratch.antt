-- The tables that searches write in.
use Rattle.std.specs.Prelude.{◌≡◌, length}
use Rattle.containers.specs.Queue.{HasRoomFor}
use Rattle.augmentation.specs.declared.scratch.Scratch.TheInside.{Inside}
use Rattle.augmentation.specs.Attempt.{IsAttemptFor}

-- each table has as many entries as there are labels, or room for as many
pub record IsScratch (s : Inside) : Type 0 where
  pub queue_fits : HasRoomFor s.queue (length s.tree.labels)
  pub marked_sized : length s.marked ≡ length s.tree.labels
  pub attempt : IsAttemptFor (length s.tree.labels) s.attempt
