use Rattle.std.proofs.Common.{inl, inr, arith, refl}
use Rattle.runs.proofs.SourceLemmas.{IsRead-whole, UsesSource-problem, UsesSource-read}
use Rattle.engines.proofs.opening.open_text.Goals as goal

pub returns-in-Err-clause-ended : goal.returns-in-Err-clause-ended
returns-in-Err-clause-ended g c = record {
  ended = inl (c.in-Err.error, c.end.ensures, c.in-Err.ensures.known);
  source = rw c.end.ensures (UsesSource-problem g.P.Source c.in-Err.error _ _ c.in-Err.ensures.grows c.in-Err.ensures.failed c.in-Err.ensures.last);
}

pub returns-in-Err-open_from-clause-ended : goal.returns-in-Err-open_from-clause-ended
returns-in-Err-open_from-clause-ended g c = record {
  ended = inr refl;
  source = record {
    read = IsRead-whole _ _ _ _ c.in-Ok.ensures.grows;
    failed = omega (arith, c.in-Ok.ensures.failed);
    last = λ one. absurd (omega (arith, one));
  };
}

pub returns-in-Ok-open_from-clause-opened : goal.returns-in-Ok-open_from-clause-opened
returns-in-Ok-open_from-clause-opened g c = record {
  opened = record {
    problem = c.in-Ok.problem;
    problem_read = c.in-Ok.ensures.known;
    opens = record {
      past = c.in-Ok-open_from.ensures.past;
      settled = record { instance_is = c.in-Ok-open_from.ensures.instance; answered = c.in-Ok-open_from.ensures.answered };
      future = c.in-Ok-open_from.ensures.future;
      marks = c.in-Ok-open_from.ensures.marks;
    };
  };
  source = UsesSource-read g.P.Source _ _ c.in-Ok.ensures.grows c.in-Ok.ensures.failed;
}
