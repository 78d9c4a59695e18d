use Rattle.std.proofs.Common.{inl, inr, refl}
use Rattle.runs.proofs.SourceLemmas.{UsesSource-none}
use Rattle.engines.proofs.interaction.serve_session.Goals as goal

pub returns-in-Err-clause-served : goal.returns-in-Err-clause-served
returns-in-Err-clause-served g c = inl (record { failed = refl; unread = refl; appends = c.in-Err.ensures.bytes; flushed = c.in-Err.ensures.flushed })

pub returns-in-Err-clause-script : goal.returns-in-Err-clause-script
returns-in-Err-clause-script g c = UsesSource-none g.C.Source _ _ c.args.script.now refl refl

pub returns-in-Ok-clause-served : goal.returns-in-Ok-clause-served
returns-in-Ok-clause-served g c = inr (record {
  told = _;
  appends = c.in-Ok.ensures.bytes;
  flushed = c.in-Ok.ensures.flushed;
  serves = rw c.prepare.ensures at c.serve_commands-end.ensures.served;
})
