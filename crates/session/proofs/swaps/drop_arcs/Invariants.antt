use Rattle.std.proofs.Common.{◌≡◌}
use Rattle.session.specs.Parts.{cut_off}
use Rattle.session.proofs.swaps.drop_arcs.Given as goal

-- so many arcs are taken off
abbrev pub invariant-loop : goal.invariant-loop
invariant-loop l = l.tables.moment ≡ cut_off l.counter l.fn.tables.moment
