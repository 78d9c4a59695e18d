use Rattle.std.proofs.Common.{rules, ap, ◌∙◌}
use Rattle.dimacs_text.specs.Reading.{ProblemValue}
use Rattle.network.specs.Instance.{first}
use Rattle.c_calls.proofs.arrays.open_arrays.Goals as goal

pub returns-in-Ok-open_from-clause-opened : goal.returns-in-Ok-open_from-clause-opened
returns-in-Ok-open_from-clause-opened c =
    record {
      even = search rules;
      faultless = search rules;
      opening = record {
        instance_is = c.in-Ok-open_from.ensures.instance ∙ ap (λ (p : ProblemValue). first p c.args.extra) c.in-Ok.ensures;
        answered = c.in-Ok-open_from.ensures.answered;
        no_past = c.in-Ok-open_from.ensures.past;
        no_future = c.in-Ok-open_from.ensures.future;
        no_marks = search rules;
      };
    }
