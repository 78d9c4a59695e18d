use Rattle.std.proofs.Common.{◌∙◌, ◌-◌, ℤ, List, pos, ap, rules, slice_index_or, w64}
use Rattle.std.proofs.lemmas.Int.{to_z-of_z}
use Rattle.flow_solver.proofs.ChangeLemmas.{flow_at}
use Rattle.flow_solver.proofs.tables.Tables.flow_of.Goals as goal

pub returns : goal.returns
returns c =
    let m = c.args.self.now.moment in
    let entry = slice_index_or c.flow.result.now (c.args.k - 1) (pos 0) in
    to_z-of_z w64 entry (search rules) ∙ ap (λ (x : List ℤ). slice_index_or x (c.args.k - 1) (pos 0)) c.flow.ensures.value ∙ flow_at m.instance.demand m.flow c.args.k (pos 0) c.requires.0
