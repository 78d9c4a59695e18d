use Rattle.std.proofs.Common.{ap, ◌∙◌}
use Rattle.network.specs.Instance.{arc_at}
use Rattle.network.proofs.Following.{frame_all}
use Rattle.network.proofs.Network.tested_after.Goals as goal

pub returns : goal.returns
returns c = λ before e.
    let seen = c.arc_after-row.ensures before e in
    c.tested.ensures before (frame_all c.args.self.now c.args.edits.now before e) (seen.0 ∙ ap (arc_at before.arcs) c.arc_of.ensures) seen.1
