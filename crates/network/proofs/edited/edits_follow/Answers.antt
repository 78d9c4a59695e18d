use Rattle.network.proofs.EditedAll.{edited_one, edited_more, refused_more, edited_all-lawful}
use Rattle.network.proofs.edited.edits_follow.Goals as goal

pub returns : goal.returns
returns c = record { one = edited_one; made = edited_more; refused = refused_more; lawful = edited_all-lawful }
