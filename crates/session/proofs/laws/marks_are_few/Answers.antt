use Rattle.session.proofs.Apart.{none_at_first, put_few, kept_few, kept_where, found_again, others_stay}
use Rattle.session.proofs.laws.marks_are_few.Goals as goal

pub returns : goal.returns
returns c = record { opened = none_at_first; put = put_few; kept = kept_few; remains = kept_where; found = found_again; others = others_stay }
