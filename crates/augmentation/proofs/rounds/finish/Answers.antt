use Rattle.std.proofs.Common.{◌<◌, ◌∙◌, ◌+◌, ◌^◌, ℤ, List, arith, rules, sym, subst}
use Rattle.std.proofs.lemmas.Bool.{false≢true}
use Rattle.augmentation.specs.Pseudoflow.{IsCertifiedPseudoflow}
use Rattle.flow_changes.proofs.PushesLemmas.{ArePushes-more}
use Rattle.augmentation.proofs.SettleLemmas.{HavePushed-more, HavePushed-none, count_fits}
use Rattle.cuts.proofs.CutLemmas.{parted_unless_both}
use Rattle.augmentation.proofs.rounds.finish.Goals as goal

pub returns-then-not-has_both-clause-parted : goal.returns-then-not-has_both-clause-parted
returns-then-not-has_both-clause-parted c =
    parted_unless_both c.args.graph.now.rows c.args.flow.now.entries c.args.excess.now
    (rw c.requires.state.excess_in c.requires.state.certified.flow) (λ both. false≢true (sym c.if-not-has_both.true ∙ c.has_both.ensures.1 both))

pub loop-target-init : goal.loop-target-init
loop-target-init c = HavePushed-none (record {
  state = subst (λ (p : List ℤ). IsCertifiedPseudoflow c.args.graph.now c.args.flow.now.entries p c.args.excess.now) (sym (c.take_potentials.ensures.labels ∙ c.entries-2.ensures)) c.requires.state;
  forgotten = c.take_potentials.ensures.forgotten;
})

pub loop-target-preserved : goal.loop-target-preserved
loop-target-preserved c = HavePushed-more c.loop-target.invariant c.push_round-pushes.ensures.pushed

pub overflow_add-pushes : goal.overflow_add-pushes
overflow_add-pushes c =
    let fits = count_fits c.requires.state (ArePushes-more c.loop-target.invariant.pushes c.push_round-pushes.ensures.pushed.pushes) in
    let bound : c.loop-target.pushes + c.push_round-pushes.result < 2 ^ 64 = omega (arith, fits) in
    search (rules, bound)
