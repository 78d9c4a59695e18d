-- What is known of the labels of a tree.
use Rattle.std.specs.Prelude.{Bool, false, true}
use Rattle.shortest_paths.specs.declared.tree.Knowledge.{Knowledge}
use Rattle.shortest_paths.specs.declared.tree.Knowledge.TheVariants.{Held, Mendable, Nothing}

-- whether the labels are not held: more may have changed than is noted
abbrev pub is_lost_by : Knowledge → Bool
is_lost_by Held = false
is_lost_by Mendable = true
is_lost_by Nothing = true
