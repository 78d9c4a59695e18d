use Rattle.std.proofs.Common.{[]}
use Rattle.c_calls.proofs.ReadLemmas.{fed, finished}
use Rattle.c_calls.proofs.library.read_problem.Goals as goal

pub returns-in-Ok : goal.returns-in-Ok
returns-in-Ok c = finished c.finish.result c.args.text.now (c.finish.ensures.text c.args.text.now (c.in-Ok.ensures.text [] c.new-reader.ensures.text).1)

pub returns-in-Err : goal.returns-in-Err
returns-in-Err c = fed c.decided_for_all.ensures.always c.in-Err.fault c.feed.new.self c.args.text.now (c.in-Err.ensures.text [] c.new-reader.ensures.text)
