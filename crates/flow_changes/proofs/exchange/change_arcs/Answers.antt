use Rattle.std.proofs.Common.{◌∙◌, ◌<◌, arith, length, refl, ap, take}
use Rattle.std.proofs.lemmas.List.{length-set}
use Rattle.flow_changes.specs.Exchange.{flow_before}
use Rattle.flow_changes.proofs.ExchangeLemmas.{changed-more, changed-same, flow_before-more, led_on, led_same}
use Rattle.tracked.proofs.TrackedLemmas.{IsWritten-same, IsWritten-trans}
use Rattle.flow_changes.proofs.exchange.change_arcs.Goals as goal

pub loop-j-init : goal.loop-j-init
loop-j-init c = record {
  written = IsWritten-same c.args.flow.now;
  led = led_same c.args.journal.now c.args.excess.now c.requires.journal.journal;
  as_many = refl;
  before = refl;
  changed = changed-same c.args.graph.now.rows c.args.ranks.now c.args.flow.now.entries c.args.excess.now c.requires.flow;
}

pub loop-j-preserved : goal.loop-j-preserved
loop-j-preserved c =
    let l = c.loop-j in
    let made = c.change_arc-is_made in
    let is = l.invariant in
    let j_in : l.j < length l.changes.items = omega (arith, c.loop-j-test.true, is.as_many) in
    record {
      written = IsWritten-trans c.args.flow.now l.flow made.new.flow is.written made.ensures.written;
      led = led_on is.led made.ensures.led;
      as_many = length-set l.changes.items l.j made.new.change ∙ is.as_many;
      before = flow_before-more l.changes.items l.j made.new.change made.new.flow.entries j_in ∙ ap (flow_before (take l.j l.changes.items)) (made.ensures.before c.if-not-is_made.false) ∙ is.before;
      changed = changed-more c.args.graph.now.rows c.args.ranks.now c.args.flow.now.entries c.args.excess.now l.flow.entries l.excess made.new.flow.entries made.new.excess is.led.same_length is.changed (made.ensures.changed c.if-not-is_made.false);
    }
