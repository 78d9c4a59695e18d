use Rattle.std.proofs.Common.{◌↔◌, ℤ, IsTrue, rules, subst, w64, to_z, of_z, SFits}
use Rattle.std.proofs.lemmas.Int.{to_z-of_z}
use Rattle.dimacs_text.specs.declared.problem.ArcRow.{ArcRow}
use Rattle.residual_graph.specs.Residual.{number_at, row_at}
use Rattle.augmentation.specs.Certificate.{KeepsRow}
use Rattle.augmentation.proofs.certificate.keeps_arc.Goals as goal

pub returns : goal.returns
returns c =
    let x = c.args.flow.now in
    let p = c.args.potentials.now in
    let k = c.args.k in
    let fits : SFits w64 (number_at x k) = search rules in
    subst (λ (z : ℤ). IsTrue c.keeps_row.result ↔ KeepsRow (row_at c.args.graph.now.rows k) z p) (to_z-of_z w64 (number_at x k) fits)
    (subst (λ (a : ArcRow). IsTrue c.keeps_row.result ↔ KeepsRow a (to_z w64 (of_z w64 (number_at x k))) p) c.row.ensures c.keeps_row.ensures)
