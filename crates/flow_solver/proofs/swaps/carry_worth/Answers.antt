use Rattle.std.proofs.Common.{◌≡◌, ◌∙◌, ◌<◌, pos, length, arith, refl, rules, sym, ap, w64, to_z, of_z}
use Rattle.std.proofs.lemmas.Int.{to_z-of_z}
use Rattle.std.proofs.lemmas.List.{get_or_default}
use Rattle.residual_graph.specs.Residual.{number_at}
use Rattle.flow_solver.proofs.CarryLemmas.{balance_set}
use Rattle.flow_solver.proofs.swaps.carry_worth.Goals as goal

pub returns-in-Best-clause-balance : goal.returns-in-Best-clause-balance
returns-in-Best-clause-balance c =
    let rows = c.args.rows.now in
    let flow = c.args.flow.now in
    let first : 0 < length c.args.rows.now = search rules in
    let many = c.requires.flow_in ∙ sym (ap length c.requires.rows) in
    let entry : to_z w64 (of_z w64 c.get.result) ≡ number_at flow.entries 0 = to_z-of_z w64 c.get.result (search rules) ∙ c.get.ensures ∙ get_or_default flow.entries 0 c.get.result (pos 0) (omega (arith, first, many)) in
    balance_set c.args.net.now rows flow c.set.new.self c.args.balance.now _ 0 _ first many (rw entry at c.carry_over.ensures) refl c.set.ensures.entries c.set.ensures.written.whole c.requires.balance
