use Rattle.std.proofs.Common.{◌≡◌, ◌++◌, take, drop}
use Rattle.session.specs.Places.{taken}
use Rattle.session.specs.Record.{potentials_swapped}
use Rattle.session.proofs.swaps.swap_potentials.Given as goal

-- the places up to the index are exchanged
abbrev pub invariant-loop-place : goal.invariant-loop-place
invariant-loop-place l =
    let values = l.fn.tables.moment.potentials in
    record {
      places : l.places ≡ taken (take l.place-index l.fn.places) values ++ drop l.place-index l.fn.places;
      moment : l.tables.moment ≡ potentials_swapped (take l.place-index l.fn.places) l.fn.tables.moment;
    }
