use Rattle.network.proofs.EditedLemmas.{edited_lawful}
use Rattle.network.proofs.edited.edits_keep_lawful.Goals as goal

pub returns : goal.returns
returns c = edited_lawful
