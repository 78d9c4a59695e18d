use Rattle.std.proofs.Common.{sym, ◌∙◌, rules}
use Rattle.dimacs_text.proofs.SoundLemmas.{problem_of}
use Rattle.dimacs_text.proofs.draft.Draft.close.Goals as goal

pub new-requires : goal.new-requires
new-requires c = problem_of c.self.inside.size c.in-Some.size c.self.inside.named.items _ _ c.in-Some.is c.self.invariant (rw (← c.as_slice.ensures.value) (sym c.has_terminals.ensures ∙ c.if-not-has_terminals.false))

pub returns : goal.returns
returns c = search rules
