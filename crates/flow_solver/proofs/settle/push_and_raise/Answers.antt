use Rattle.std.proofs.Common.{◌≡◌, ◌≤◌, ◌<◌, ◌∙◌, ◌+◌, ◌^◌, ℤ, List, ap, arith, length, rules, subst, sym}
use Rattle.std.proofs.lemmas.Bool.{false≢true}
use Rattle.residual_graph.specs.Residual.{IsPseudoflow}
use Rattle.flow_changes.specs.Limits.{left_limit}
use Rattle.flow_changes.specs.Push.{ArePushes, left}
use Rattle.cuts.proofs.CutLemmas.{parted_unless_both}
use Rattle.flow_changes.proofs.PushesLemmas.{ArePushes-more}
use Rattle.cuts.proofs.ExcessLemmas.{left-small}
use Rattle.flow_solver.proofs.FlowLaws.{greatest_of}
use Rattle.flow_solver.proofs.settle.push_and_raise.Goals as goal

pub returns-then-not-has_both-clause-parted : goal.returns-then-not-has_both-clause-parted
returns-then-not-has_both-clause-parted c =
    parted_unless_both c.args.graph.now.rows c.args.flow.now.entries c.args.excess.now
    (rw c.requires.ready.state.excess_in c.requires.ready.state.certified.flow) (λ both. false≢true (sym c.if-not-has_both.true ∙ c.has_both.ensures.1 both))

pub returns-then-not-has_both-2-clause-greatest : goal.returns-then-not-has_both-2-clause-greatest
returns-then-not-has_both-2-clause-greatest c =
    greatest_of c.args.graph.now.net c.args.graph.now.rows c.push_proposed.new.flow.entries c.push_proposed.new.potentials.entries c.requires.rows c.in-Some.ensures.pushed.shortest.greatest

pub returns-then-not-has_both-2-clause-parted : goal.returns-then-not-has_both-2-clause-parted
returns-then-not-has_both-2-clause-parted c =
    let ready = c.in-Some.ensures.pushed.certified.ready in
    let rows = c.args.graph.now.rows in
    let y = c.push_proposed.new.flow.entries in
    parted_unless_both rows y c.tidy.new.self
    (subst (λ (e : List ℤ). IsPseudoflow (length e) rows y) (sym c.tidy.ensures) (rw ready.state.excess_in ready.state.certified.flow))
    (λ both. false≢true (sym c.if-not-has_both-2.true ∙ c.has_both-2.ensures.1 both))

pub returns-then-is_parted-clause-greatest : goal.returns-then-is_parted-clause-greatest
returns-then-is_parted-clause-greatest c =
    greatest_of c.args.graph.now.net c.args.graph.now.rows c.push_proposed.new.flow.entries c.push_proposed.new.potentials.entries c.requires.rows c.in-Some.ensures.pushed.shortest.greatest

pub returns-in_default-clause-greatest : goal.returns-in_default-clause-greatest
returns-in_default-clause-greatest c =
    greatest_of c.args.graph.now.net c.args.graph.now.rows c.push_all-count.new.flow.entries c.push_all-count.new.potentials.entries c.requires.rows c.push_all-count.ensures.pushed.shortest.greatest

pub returns-clause-greatest : goal.returns-clause-greatest
returns-clause-greatest c =
    greatest_of c.args.graph.now.net c.args.graph.now.rows c.push_all-more.new.flow.entries c.push_all-more.new.potentials.entries c.requires.rows c.push_all-more.ensures.pushed.shortest.greatest

pub overflow_add-result : goal.overflow_add-result
overflow_add-result c =
    let ready = c.requires.ready in
    let small : left c.args.excess.now ≤ left_limit = left-small (length c.args.potentials.now.table.entries) c.args.excess.now ready.state.small ready.state.excess_in ready.state.certified.flow.few_nodes in
    let before : left c.tidy.new.self ≡ left c.push_proposed.new.excess = ap left c.tidy.ensures in
    let first = c.in-Some.ensures.pushed.certified.pushes.count in
    let rest = c.push_all-more.ensures.pushed.certified.pushes.count in
    let bound : c.in-Some.count + c.push_all-more.result < 2 ^ 64 = omega (arith, small, before, first, rest) in
    search (rules, bound)

pub returns-clause-pushed : goal.returns-clause-pushed
returns-clause-pushed c =
    let rows = c.args.graph.now.rows in
    let more = c.push_all-more in
    ArePushes-more c.in-Some.ensures.pushed.certified.pushes
    (subst (λ (e : List ℤ). ArePushes rows more.result c.push_proposed.new.flow.entries e more.new.flow.entries more.new.excess) c.tidy.ensures more.ensures.pushed.certified.pushes)
