use Rattle.std.proofs.Common.{sym, ap, ◌∙◌, Err, refl, pos, rules}
use Rattle.dimacs_text.specs.declared.command.Edit.TheVariants.{Cap}
use Rattle.network.specs.Edited.{edited_all}
use Rattle.network.proofs.Following.{made_all, all_refused, one_more}
use Rattle.network.proofs.Network.edited_all.Goals as goal

pub loop-i-init : goal.loop-i-init
unfolding edited_all
loop-i-init c = refl

pub returns-in-Err : goal.returns-in-Err
returns-in-Err c =
    let before = made_all c.args.self.now _ c.loop-i.invariant in
    ap Err c.number.ensures ∙ sym (all_refused c.args.self.now before.0 c.args.edits.now c.loop-i.i (Cap 0 (pos 0)) c.in-Err.refusal c.loop-i-test.true before.1 (sym (c.tested_after.ensures before.0 before.1) ∙ c.in-Err.is))

pub loop-i-preserved : goal.loop-i-preserved
loop-i-preserved c =
    let before = made_all c.args.self.now _ c.loop-i.invariant in
    one_more c.args.self.now before.0 c.args.edits.now c.loop-i.i (Cap 0 (pos 0)) _ c.loop-i-test.true before.1 (sym (c.tested_after.ensures before.0 before.1) ∙ c.in_default.is)

pub tested_after-requires : goal.tested_after-requires
tested_after-requires c = search rules
