use Rattle.std.proofs.Common.{refl}
use Rattle.clap.specs.Words.{found_of, rows_of}
use Rattle.command_line.proofs.parse.check_task.Goals as goal

pub returns : goal.returns
returns c = (rows_of (found_of c.args.found.now), refl, c.named_file.ensures, c.named_file-2.ensures)
