-- What a step gives, as the reply that it is.
use Rattle.std.specs.Prelude.{Result, Ok, Err}
use Rattle.session.specs.declared.reply.Reply.{Reply as Given}
use Rattle.session.specs.declared.reply.Reply.TheVariants.{Verdict, Solution}
use Rattle.session.specs.declared.refusal.StepRefusal.{StepRefusal}
use Rattle.session.specs.Refusal.{number_of}
use Rattle.session.specs.Session.{Stack}
use Rattle.session.specs.Step.{Reply, SessionState, TellsVerdict, Shows, Refuses, state_of}

-- the reply to a step, by what the step gives
abbrev pub reply_of : Result Given StepRefusal → Reply
reply_of (Ok Verdict) = TellsVerdict
reply_of (Ok (Solution proof)) = Shows proof
reply_of (Err refusal) = Refuses (number_of refusal)

-- a step by which this holds leads from one session to the other, and gives this
abbrev pub IsStep : (SessionState → Reply → SessionState → Type 0) → Stack → Result Given StepRefusal → Stack → Type 0
IsStep StepTo old given new = StepTo (state_of old) (reply_of given) (state_of new)
