use Rattle.std.proofs.Common.{◌≡◌, ◌∙◌, List, ap, arith, length, refl, subst, sym}
use Rattle.std.proofs.lemmas.Bool.{true≢false}
use Rattle.dimacs_text.specs.declared.problem.ArcRow.{ArcRow}
use Rattle.network.specs.Instance.{reduced}
use Rattle.flow_solver.specs.Balance.{IsWrappedExcess}
use Rattle.flow_solver.specs.TablesView.{TablesView}
use Rattle.augmentation.specs.Nodes.{IsIdleEntry}
use Rattle.augmentation.specs.ScratchView.{ScratchView}
use Rattle.flow_solver.proofs.CarryLemmas.{balance_back, sends}
use Rattle.flow_solver.proofs.HeldTables.{held_noted}
use Rattle.flow_solver.proofs.tables.Tables.bring_back.Goals as goal

pub invariant_of-self : goal.invariant_of-self
invariant_of-self c =
    let t = c.self.inside in
    let I = t.graph.net in
    let inv = c.self.invariant in
    let asked = subst (λ (b : TablesView). length b.kept.flow ≡ length (reduced b.moment.instance).arcs) (sym c.self.view_is) c.requires in
    let many : length t.flow.kept ≡ length t.graph.rows = asked ∙ sym (ap length inv.graph.rows.rows_are) in
    let before = subst (λ (r : List ArcRow). IsWrappedExcess r (sends I) t.flow.entries t.balance.excess) (sym c.rows.ensures) inv.balance_is.excess in
    let excess = subst (λ (r : List ArcRow). IsWrappedExcess r (sends I) t.flow.whole c.carry_back.new.excess) c.rows.ensures (c.carry_back.ensures.excess (sends I) before) in
    record {
      fit = record {
        graph = inv.graph;
        flow_in = ap length c.bring_back.ensures.entries ∙ many;
        flow_whole = ap length c.bring_back.ensures.whole ∙ inv.flow_whole;
        flow_fits = omega (arith, inv.flow_fits, c.bring_back.ensures.room);
        potentials_in = record { entries_in = rw c.bring_back-2.ensures.entries inv.potentials_in.kept_in; kept_in = rw c.bring_back-2.ensures.kept inv.potentials_in.kept_in };
        idle = subst IsIdleEntry (sym c.bring_back-2.ensures.entries) inv.kept_idle;
        kept_idle = subst IsIdleEntry (sym c.bring_back-2.ensures.kept) inv.kept_idle;
        cut_in = record { entries_in = rw c.bring_back-3.ensures.entries inv.cut_in.kept_in; kept_in = rw c.bring_back-3.ensures.kept inv.cut_in.kept_in };
        scratch_in = rw c.note_potentials.ensures (ap length c.note_all.ensures.held.labels ∙ inv.scratch_in);
      };
      balance_is = balance_back I t.graph.rows t.flow c.bring_back.new.self t.balance _ c.bring_back.ensures.none_added c.bring_back.ensures.entries c.bring_back.ensures.whole
          c.carry_back.ensures.same_length excess refl inv.balance_is;
      told = λ none. cc;
      step = λ few. absurd (true≢false (sym (ap (λ (v : ScratchView). v.tree.are_apart) c.note_potentials.ensures) ∙ few));
      held = rw (c.bring_back.ensures.whole, c.note_potentials.ensures) (held_noted t.graph.rows t.flow.whole t.scratch.tree c.note_all.new.self.tree c.note_all.ensures.held inv.held);
      log_fits = omega (arith, inv.log_fits);
      before_is = tt;
    }
