use Rattle.std.proofs.Common.{◌≡◌, pos, refl, subst, sym}
use Rattle.dimacs_lines.specs.Fields.{IsNode}
use Rattle.residual_graph.specs.Residual.{number_at}
use Rattle.flow_solver.specs.TablesView.{TablesView}
use Rattle.augmentation.proofs.NearLemmas.{step_noted}
use Rattle.flow_solver.proofs.TablesViewLemmas.{fit_written}
use Rattle.tracked.proofs.TrackedLemmas.{IsWritten-same}
use Rattle.flow_solver.proofs.tables.Tables.swap_potential.Goals as goal

pub invariant_of-self : goal.invariant_of-self
invariant_of-self c =
    let t = c.self.inside in
    let inv = c.self.invariant in
    let node = subst (λ (b : TablesView). IsNode b.moment.instance.nodes c.args.id) (sym c.self.view_is) c.requires.node in
    let same : number_at c.exchange_node.new.table.entries 0 ≡ number_at t.potentials.table.entries 0 = c.exchange_node.ensures.no_node (pos 0) in
    record {
      fit = fit_written t.graph t.graph t.flow t.flow t.potentials.table _ t.cut t.cut t.scratch c.note_potential.new.self inv.fit refl refl inv.graph refl (IsWritten-same t.flow) c.exchange_node.ensures.written (rw same inv.idle) (IsWritten-same t.cut) (rw c.note_potential.ensures.same inv.scratch_in);
      balance_is = inv.balance_is;
      told = λ none. cc;
      step = rw c.note_potential.ensures.same (step_noted t.scratch.tree _ t.potentials.table.entries _ c.args.id _ inv.step c.note_potential.ensures.marked c.exchange_node.ensures.entries);
      held = rw c.note_potential.ensures.same inv.held;
      log_fits = inv.log_fits;
      before_is = tt;
    }
