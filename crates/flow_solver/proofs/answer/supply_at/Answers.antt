use Rattle.std.proofs.Common.{◌∙◌, inl, inr, sym, rules, w64}
use Rattle.std.proofs.lemmas.Int.{to_z-of_z}
use Rattle.network.specs.Instance.{reduced}
use Rattle.residual_graph.proofs.NodeNumbers.{is_node_or_not}
use Rattle.augmentation.proofs.NodeLemmas.{held_node, held_other}
use Rattle.flow_solver.proofs.answer.supply_at.Goals as goal

pub returns-in-Some : goal.returns-in-Some
returns-in-Some c =
    to_z-of_z w64 c.in-Some.supply (search rules) ∙ elim (is_node_or_not c.args.net.now.nodes c.args.id) [
      | inl node ↦ (let says = c.reduced_supply.ensures.node node in
          let at = held_node c.args.net.now.nodes (reduced c.args.net.now).supply c.args.id node in
          let is = c.in-Some.is in
          cc)
      | inr none ↦ (let says = c.reduced_supply.ensures.no_node none in let is = c.in-Some.is in cc)
    ]

pub returns-in-None : goal.returns-in-None
returns-in-None c = elim (is_node_or_not c.args.net.now.nodes c.args.id) [
  | inl node ↦ (let says = c.reduced_supply.ensures.node node in let is = c.in-None.is in cc)
  | inr none ↦ sym (held_other c.args.net.now.nodes (reduced c.args.net.now).supply c.args.id none)
]
