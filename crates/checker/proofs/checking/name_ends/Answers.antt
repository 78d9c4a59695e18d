use Rattle.std.proofs.lemmas.Bool.{false≢true}
use Rattle.std.proofs.Common.{refl, rules, arith, ap, inl, inr, length}
use Rattle.network.proofs.Places.{all_zip-length, all_zip-step, all_zip-fails, all_zip-end, answered_no, answered_yes}
use Rattle.checker.specs.Check.{NamesEnds}
use Rattle.checker.proofs.checking.name_ends.Goals as goal

pub returns-then-arcs-lines : goal.returns-then-arcs-lines
returns-then-arcs-lines c = answered_no (λ all. c.if-arcs-lines.true (all_zip-length NamesEnds _ _ all))

pub loop-arc-init : goal.loop-arc-init
loop-arc-init c = search rules

pub returns-then-not-names_ends : goal.returns-then-not-names_ends
returns-then-not-names_ends c =
    let steps = c.in-Some.ensures.steps in
    answered_no (all_zip-fails NamesEnds _ _ _ _ _ _ _ c.loop-arc.invariant.same steps.0 steps.1 (λ keeps. false≢true (c.if-not-names_ends.ensures.1 keeps)))

pub loop-arc-preserved : goal.loop-arc-preserved
loop-arc-preserved c =
    let steps = c.in-Some.ensures.steps in
    record {
      same = all_zip-step NamesEnds _ _ _ _ _ _ _ c.loop-arc.invariant.same steps.0 steps.1 (c.if-not-names_ends.ensures.0 refl);
      long = let l = c.loop-arc.invariant.long in let a = ap length steps.0 in let b = ap length steps.1 in omega arith;
    }

pub returns : goal.returns
returns c =
    let long = c.loop-arc.invariant.long in
    elim c.in-None.ensures.steps [
      | inl h ↦ (let e = h.1.0 in answered_yes (all_zip-end NamesEnds _ _ _ c.loop-arc.invariant.same (omega arith) (omega arith)))
      | inr h ↦ (let e = h.1 in answered_yes (all_zip-end NamesEnds _ _ _ c.loop-arc.invariant.same (omega arith) (omega arith)))
    ]
