use Rattle.std.proofs.Common.{◌∙◌, ap}
use Rattle.network.specs.Edited.{outcome}
use Rattle.network.proofs.EditedAll.{edited_one}
use Rattle.network.proofs.Network.edited.Goals as goal

pub returns : goal.returns
returns c = c.edited_all.ensures ∙ ap outcome (edited_one c.args.self.now c.args.edit.now)
