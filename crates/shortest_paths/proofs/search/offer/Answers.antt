use Rattle.std.proofs.Common.{rules}
use Rattle.shortest_paths.proofs.StepLemmas.{HaveJoined-refl, grown_offered, served_offered}
use Rattle.shortest_paths.proofs.search.offer.Goals as goal

pub returns-then-not-crosses-clause-grown : goal.returns-then-not-crosses-clause-grown
returns-then-not-crosses-clause-grown c = HaveJoined-refl _ _ _ _ _

pub returns-clause-grown : goal.returns-clause-grown
returns-clause-grown c = grown_offered _ _ _ _ _ _ _ _ c.offer.ensures (record { crosses = search rules; ends = search rules; key_is = search rules })

pub returns-clause-served : goal.returns-clause-served
returns-clause-served c = λ at. served_offered _ _ _ _ _ _ _ _ c.offer.ensures (record { crosses = at; ends = search rules; key_is = search rules })
