use Rattle.std.proofs.Common.{ℕ, subst, arith}
use Rattle.session.proofs.Numbers.{AreNumbered, none_more, one_more, numbers_name}
use Rattle.session.proofs.differences.differing.Goals as goal
use Rattle.session.proofs.differences.differing.Goals.{in-Some, in_default}

-- a number is added where the lists differ at the index, and none elsewhere
pub loop-index-preserved : goal.loop-index-preserved
loop-index-preserved g c =
    let items = c.loop-index.numbers.items in
    let i = c.loop-index.index-index in
    let kept = c.loop-index.invariant in
    elim c.match-difference.branch [
      | in-Some w ↦ rw w.numbers-is record {
        numbered = rw w.push_reserved.ensures.items (one_more c.args.first c.args.indices.now c.args.old.now c.args.new.now items i w.in-Some.number c.requires.apart c.loop-index-test.true kept.numbered w.in-Some.ensures.0 w.in-Some.ensures.1);
        room = rw w.push_reserved.ensures.capacity kept.room;
      }
      | in_default w ↦ rw w.numbers-is record {
        numbered = none_more c.args.first c.args.indices.now c.args.old.now c.args.new.now items i kept.numbered w.in_default.ensures;
        room = kept.room;
      }
    ]

pub returns-clause-named : goal.returns-clause-named
returns-clause-named g c =
    let all = c.loop-index.invariant.numbered in
    numbers_name c.args.first c.args.indices.now c.args.old.now c.args.new.now c.loop-index.numbers.items (subst (λ (i : ℕ). AreNumbered c.args.first c.args.indices.now c.args.old.now c.args.new.now c.loop-index.numbers.items i) (omega arith) all) c.requires.named
