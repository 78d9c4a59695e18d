use Rattle.std.proofs.Common.{◌∙◌, List, ap, arith, length, refl, subst, sym}
use Rattle.std.specs.Int.{w128}
use Rattle.std.proofs.lemmas.Int.{to_z-of_z}
use Rattle.dimacs_text.specs.declared.problem.ArcRow.{ArcRow}
use Rattle.flow_solver.specs.Balance.{IsWrappedCost}
use Rattle.augmentation.specs.Nodes.{IsIdleEntry}
use Rattle.augmentation.proofs.NearLemmas.{step_kept}
use Rattle.flow_solver.proofs.CarryLemmas.{balance_kept}
use Rattle.flow_solver.proofs.HeldTables.{held_kept}
use Rattle.flow_solver.proofs.tables.Tables.snapshot.Goals as goal

pub invariant_of-self : goal.invariant_of-self
invariant_of-self c =
    let t = c.self.inside in
    let inv = c.self.invariant in
    let result = c.cost_now-self-inside.result in
    let cost = to_z-of_z w128 result (record { sfits = c.cost_now-self-inside.type_inv })
    ∙ subst (λ (r : List ArcRow). IsWrappedCost r t.flow.entries result) c.rows.ensures c.cost_now-self-inside.ensures in
    record {
      fit = record {
        graph = inv.graph;
        flow_in = ap length c.snapshot.ensures.entries ∙ inv.flow_in;
        flow_whole = ap length c.snapshot.ensures.whole ∙ inv.flow_in;
        flow_fits = omega (arith, inv.flow_fits, c.snapshot.ensures.room);
        potentials_in = record { entries_in = rw c.snapshot-2.ensures.entries inv.potentials_in.entries_in; kept_in = rw c.snapshot-2.ensures.kept inv.potentials_in.entries_in };
        idle = subst IsIdleEntry (sym c.snapshot-2.ensures.entries) inv.idle;
        kept_idle = subst IsIdleEntry (sym c.snapshot-2.ensures.kept) inv.idle;
        cut_in = record { entries_in = rw c.snapshot-3.ensures.entries inv.cut_in.entries_in; kept_in = rw c.snapshot-3.ensures.kept inv.cut_in.entries_in };
        scratch_in = ap length c.note_all.ensures.held.labels ∙ inv.scratch_in;
      };
      balance_is = balance_kept t.graph.net t.graph.rows t.flow c.snapshot.new.self t.balance _ c.snapshot.ensures.entries c.snapshot.ensures.whole refl cost inv.balance_is;
      told = λ stood. rw (c.snapshot-2.ensures.entries, c.snapshot.ensures.entries) (inv.told stood);
      held = rw c.snapshot.ensures.whole (held_kept t.graph.rows t.flow.whole t.scratch.tree c.note_all.new.self.tree c.note_all.ensures.held inv.held c.places-changed.result.now t.flow.entries inv.flow_whole c.places-changed.ensures.all_named c.note_all.ensures.noted);
      step = rw c.snapshot-2.ensures.entries (step_kept t.scratch.tree c.note_all.new.self.tree c.note_all.ensures.held t.potentials.table.entries inv.step);
      log_fits = omega (arith, inv.log_fits);
      before_is = tt;
    }
