use Rattle.std.proofs.Common.{◌≡◌, ◌+◌, ℤ, List, length, refl}
use Rattle.std.proofs.lemmas.Option.{IfSome_then}
use Rattle.flow_changes.specs.Changes.{AreNearer}
use Rattle.flow_changes.specs.Push.{left}
use Rattle.tracked.specs.Journal.{IsSince}
use Rattle.flow_changes.proofs.exchange.exchange.Goals as goal

pub returns-clause-some : goal.returns-clause-some
returns-clause-some c =
    let e = c.args.excess.now in
    let f = c.change_arcs.new.excess in
    let j = c.change_arcs.new.journal in
    let sized : length f ≡ length e = c.change_arcs.ensures.led.same_length in
    let changed = c.change_arcs.ensures.changed c.if-not-change_arcs.false in
    let since : IsSince j e f = c.change_arcs.ensures.led.since e (c.clear.ensures.since e c.requires.trial.excess.room) in
    IfSome_then c.units_given.result {P = λ n. (before : List ℤ) → IsSince j before f → AreNearer before f × (n + left f ≡ left before)} c.units_given.ensures
    (λ n gave. record {
      ranks = c.ranks-ranks.result.now;
      change = record {
        before = c.requires.flow;
        after = changed.flow;
        excess_sized = refl;
        after_sized = sized;
        small = c.requires.small;
        excess = changed.excess;
        nearer = (gave e since).0;
        rises = changed.rises;
      };
      units = (gave e since).1;
    })
