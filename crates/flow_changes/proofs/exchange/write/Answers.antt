use Rattle.std.proofs.lemmas.List.{length-set}
use Rattle.tracked.proofs.JournalLemmas.{since_written}
use Rattle.flow_changes.proofs.exchange.write.Goals as goal

pub returns-clause-led : goal.returns-clause-led
returns-clause-led c = record {
  journal = c.note.ensures.journal;
  room = c.note.ensures.room;
  same_length = length-set c.args.table.now c.args.place _;
  since = λ zs is. since_written c.note.new.self zs c.args.table.now c.args.place _ c.note.ensures.noted (c.note.ensures.since zs is);
}
