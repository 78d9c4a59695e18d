use Rattle.dimacs_lines.proofs.StreamLemmas.{undecided_nothing}
use Rattle.dimacs_lines.proofs.DecidedLemmas.{decided_always, decided_only}
use Rattle.dimacs_lines.proofs.reader.decided_for_any_rule.Goals as goal

pub returns : goal.returns
returns g c = record {
  nothing = undecided_nothing;
  always = λ rule ends. decided_always rule ends;
  only = λ rule ends rule_other end_other. decided_only rule ends rule_other end_other;
}
