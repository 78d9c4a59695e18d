use Rattle.std.proofs.Common.{◌∙◌, subst, sym}
use Rattle.std.proofs.lemmas.List.{with_items_is}
use Rattle.network.specs.Instance.{reduced}
use Rattle.augmentation.specs.Nodes.{held}
use Rattle.flow_solver.specs.Balance.{AreWrapped}
use Rattle.flow_solver.proofs.balance.Balance.new.Goals as goal

pub returns-clause-excess : goal.returns-clause-excess
returns-clause-excess c =
    let supply = held c.args.net.now.nodes (reduced c.args.net.now).supply in
    let filled = with_items_is c.in_ok-entries.entries c.fill_supplies.new.excess (c.fill_supplies.auto.excess ∙ c.deref_mut.ensures.len) in
    c.send.ensures.excess supply (subst (AreWrapped supply) (sym (c.in_ok-excess.ensures ∙ filled)) c.fill_supplies.ensures)
