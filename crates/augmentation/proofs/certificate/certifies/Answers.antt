use Rattle.std.proofs.Common.{ℕ, ap, arith, inl, inr, length, refl, subst, sym}
use Rattle.std.proofs.lemmas.Bool.{cases_eq, false≢true}
use Rattle.network.proofs.Places.{answered_no}
use Rattle.residual_graph.specs.Residual.{number_at, row_at}
use Rattle.augmentation.specs.Certificate.{KeepsRow}
use Rattle.augmentation.proofs.CertificateLemmas.{rows_of}
use Rattle.augmentation.proofs.certificate.certifies.Goals as goal

pub returns-then-not-keeps_arc : goal.returns-then-not-keeps_arc
returns-then-not-keeps_arc c = answered_no (λ both. false≢true (c.if-not-keeps_arc.ensures.1 (rows_of c.args.graph.now.rows c.args.flow.now c.args.potentials.now both.1 c.loop-k.k (omega (arith, c.loop-k-test.true, ap length c.rows-k-end.ensures)))))

pub loop-k-preserved : goal.loop-k-preserved
loop-k-preserved c = λ j lt. (elim (cases_eq j c.loop-k.k) [
  | inl same ↦ subst (λ (i : ℕ). KeepsRow (row_at c.args.graph.now.rows i) (number_at c.args.flow.now i) c.args.potentials.now) (sym same) (c.if-not-keeps_arc.ensures.0 refl)
  | inr ne ↦ c.loop-k.invariant j (omega (arith, lt, ne))
])
