use Rattle.std.proofs.Common.{rules}
use Rattle.cuts.proofs.excess.note_all_unbalanced.Goals as goal

pub loop-v-preserved : goal.loop-v-preserved
loop-v-preserved c = search rules
