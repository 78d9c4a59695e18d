use Rattle.std.proofs.Common.{drop, subst}
use Rattle.std.specs.Prelude.{IfSome}
use Rattle.tracked.specs.Touched.{NameChanges}
use Rattle.flow_solver.specs.TablesView.{TablesView}
use Rattle.tracked.proofs.TrackedLemmas.{named_after_first}
use Rattle.flow_solver.proofs.TablesViewLemmas.{since}
use Rattle.flow_solver.proofs.tables.Tables.touched_cut.Goals as goal

pub returns-clause-named : goal.returns-clause-named
returns-clause-named c =
    let cut = c.self.inside.cut in
    let places = c.places.result.now in
    subst (λ (d : TablesView). IfSome d.before (λ old. NameChanges 1 places old.cut d.moment.cut)) c.self.view_is
    (since _ _ _ (λ old. NameChanges 1 places old.cut (drop 1 cut.entries)) (λ told. named_after_first places cut.kept cut.entries (rw c.table.ensures at c.places.ensures.named)))
