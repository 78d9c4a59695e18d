use Rattle.std.proofs.Common.{◌≤◌, ◌<◌, ◌+◌, ◌^◌, length, arith, rules}
use Rattle.flow_changes.specs.Limits.{left_limit}
use Rattle.flow_changes.specs.Push.{left}
use Rattle.flow_changes.proofs.PushesLemmas.{ArePushes-more}
use Rattle.cuts.proofs.ExcessLemmas.{left-small}
use Rattle.augmentation.proofs.adoption.push_all.Goals as goal

pub overflow_add-result : goal.overflow_add-result
overflow_add-result c =
    let ready = c.requires.ready in
    let small : left c.args.excess.now ≤ left_limit = left-small (length c.args.potentials.now.entries) c.args.excess.now ready.state.small ready.state.excess_in ready.state.certified.flow.few_nodes in
    let first = c.push_from_afar-count.ensures.pushed.pushes.count in
    let rest = c.push_rest-more.ensures.pushed.certified.pushes.count in
    let bound : c.push_from_afar-count.result + c.push_rest-more.result < 2 ^ 64 = omega (arith, small, first, rest) in
    search (rules, bound)

pub returns-clause-pushed : goal.returns-clause-pushed
returns-clause-pushed c =
    let rest = c.push_rest-more.ensures.pushed in
    record {
      certified = record {
        ready = rest.certified.ready;
        pushes = ArePushes-more c.push_from_afar-count.ensures.pushed.pushes rest.certified.pushes;
      };
      shortest = rest.shortest;
    }
