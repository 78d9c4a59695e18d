use Rattle.std.proofs.Common.{◌<◌, ◌∙◌, arith, length, pos, refl, rules, w64, SFits}
use Rattle.std.proofs.lemmas.Int.{to_z-of_z}
use Rattle.std.proofs.lemmas.List.{get_or_default, length-set}
use Rattle.tracked.specs.NodeLists.{node_at}
use Rattle.tracked.proofs.JournalLemmas.{since_back, since_left}
use Rattle.tracked.proofs.TrackedLemmas.{AreLeft-all, AreLeft-past}
use Rattle.tracked.proofs.journal.Journal.bring_back.Goals as goal

pub loop-place-init : goal.loop-place-init
loop-place-init c = record {
  sized = refl;
  left = λ xs is. since_left c.args.self.now xs c.args.table.now c.places-place-items.result.now c.places-place-items.ensures.listed is;
}

pub loop-place-preserved-then-k-table : goal.loop-place-preserved-then-k-table
loop-place-preserved-then-k-table c = record {
  sized = c.loop-place.invariant.sized;
  left = λ xs is. AreLeft-past c.places-place-items.result.now c.loop-place.place-index c.loop-place.table xs (c.loop-place.invariant.left xs is) c.if-k-table.true;
}

pub loop-place-preserved : goal.loop-place-preserved
loop-place-preserved c =
    let places = c.places-place-items.result.now in
    let p = node_at places c.loop-place.place-index in
    let inside : p < length c.args.self.now.before.items = omega (arith, c.if-k-table.false, c.loop-place.invariant.sized, c.requires.room) in
    let fits : SFits w64 c.index.result.now = search rules in
    record {
      sized = length-set _ _ _ ∙ c.loop-place.invariant.sized;
      left = λ xs is. since_back c.args.self.now xs c.args.table.now c.loop-place.table places c.loop-place.place-index _ c.places-place-items.ensures.noted c.loop-place-test.true is (c.loop-place.invariant.left xs is) (omega (arith, c.if-k-table.false))
          (to_z-of_z w64 c.index.result.now fits ∙ c.index.ensures ∙ get_or_default c.args.self.now.before.items p c.index.result.now (pos 0) inside);
    }

pub returns : goal.returns
returns c = λ xs is. AreLeft-all c.places-place-items.result.now c.loop-place.place-index c.loop-place.table xs (c.loop-place.invariant.left xs is) (omega (arith, c.loop-place-test.false))
