use Rattle.std.proofs.Common.{refl, arith}
use Rattle.dimacs_lines.proofs.StreamLemmas.{undecided_nothing, parts_of_nothing}
use Rattle.dimacs_lines.proofs.reader.TextReader.new.Goals as goal

pub returns-clause-undecided : goal.returns-clause-undecided
returns-clause-undecided g c = λ setting. undecided_nothing (g.T.LineTaker.rule setting)

pub returns-clause-text : goal.returns-clause-text
returns-clause-text g c = λ setting held. record {
  undecided = undecided_nothing (g.T.LineTaker.rule setting);
  lines_are = rw parts_of_nothing (omega arith);
  held = rw parts_of_nothing held;
  begun_is = rw (parts_of_nothing, c.new.ensures) refl;
}
