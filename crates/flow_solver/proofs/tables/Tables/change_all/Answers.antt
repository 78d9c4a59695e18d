use Rattle.std.proofs.Common.{◌≡◌, ◌∙◌, length, sym, ap, arith, subst, Some, Ok}
use Rattle.std.proofs.lemmas.Int.{ints}
use Rattle.network.specs.Instance.{Instance, at_node, reduced}
use Rattle.flow_solver.specs.TablesView.{TablesView}
use Rattle.flow_solver.specs.Edit.{AreChanges, AreMade}
use Rattle.flow_solver.specs.Moment.{IsWellFormed, Snapshot, kept_of}
use Rattle.flow_solver.specs.Part.{LeadsBack, before_all}
use Rattle.flow_solver.specs.Tables.{kept_by}
use Rattle.flow_solver.proofs.TablesViewLemmas.{moment_kept}
use Rattle.flow_solver.proofs.GroupLemmas.{grown_all, made_leads}
use Rattle.flow_solver.proofs.tables.Tables.change_all.Goals as goal
use Rattle.flow_solver.proofs.tables.Tables.change_all.Goals.{After-self-1}

-- the edits are made of the moment before
made : (c : After-self-1) → AreMade c.args.self.now.moment.instance c.args.edits.now (at_node c.args.self.now.moment.potentials) c.args.self.now.moment.flow c.settle-pushes.new.self.moment.instance c.make_all.new.tables.moment.flow
made c = rw c.settle-pushes.ensures.instance (rw c.snapshot.ensures.moment at c.make_all.ensures.made)

-- what is logged is so still
log_is : (c : After-self-1) → c.self-2.inside.before.log.items ≡ c.make_all.new.tables.kept.log
log_is c = ap (λ (d : TablesView). d.kept.log) c.self-2.view_is ∙ ap (λ (k : Snapshot). k.log) c.settle-pushes.ensures.kept

-- what is logged leads back
back : (c : After-self-1) → LeadsBack c.self-2.inside.before.log.items c.args.self.now.moment.instance c.self-2.inside.graph.net
back c =
    let here = ap (λ (d : TablesView). d.moment.instance) c.self-2.view_is ∙ c.settle-pushes.ensures.instance in
    rw (log_is c, here) (rw c.snapshot.ensures.moment at c.make_all.ensures.back)

-- what was kept is kept still
kept_is : (c : After-self-1) → kept_by c.self-2.inside.flow c.self-2.inside.potentials.table c.self-2.inside.cut c.self-2.inside.before.log.items ≡ record (kept_of c.args.self.now.moment) { log = c.self-2.inside.before.log.items }
kept_is c =
    let all = ap (λ (d : TablesView). d.kept) c.self-2.view_is ∙ c.settle-pushes.ensures.kept ∙ c.make_all.ensures.kept in
    ap (λ (k : Snapshot). record k { log = c.self-2.inside.before.log.items }) (all ∙ ap (λ (k : Snapshot). record k { log = c.make_all.new.tables.kept.log }) c.snapshot.ensures.kept)

pub invariant_of-self : goal.invariant_of-self
invariant_of-self c =
    let inv = c.self-2.invariant in
    let sized = subst IsWellFormed c.snapshot.ensures.moment c.snapshot.ensures.sized in
    let leads = back c in
    record {
      fit = inv.fit;
      balance_is = inv.balance_is;
      told = inv.told;
      held = inv.held;
      step = inv.step;
      log_fits = inv.log_fits;
      before_is = (
        leads.can,
        ap (λ (k : Snapshot). length k.flow) (kept_is c) ∙ sized.one_flow ∙ ap (λ (I : Instance). length (reduced I).arcs) (sym leads.back),
      );
    }

pub returns-clause-instance : goal.returns-clause-instance
returns-clause-instance c =
    let m = c.args.self.now.moment in
    made_leads m.instance c.settle-pushes.new.self.moment.instance c.args.edits.now (at_node m.potentials) m.flow c.make_all.new.tables.moment.flow (made c)
    ∙ ap (λ (d : TablesView). Ok d.moment.instance) (sym c.self-2.view_is)

pub returns-clause-before : goal.returns-clause-before
returns-clause-before c =
    let t = c.self-2.inside in
    let told = ap (λ (d : TablesView). d.moment.verdict) c.self.view_is in
    ap Some (moment_kept (before_all t.before.log.items t.graph.net) (kept_by t.flow t.potentials.table t.cut t.before.log.items) c.self.inside.verdict c.args.self.now.moment (back c).back (kept_is c) told)

pub returns-clause-changed : goal.returns-clause-changed
returns-clause-changed c =
    let m = c.args.self.now.moment in
    let edits = c.args.edits.now in
    let start = c.make_all.new.tables.moment.flow in
    let end = c.settle-pushes.new.self.moment in
    let same = c.settle-pushes.ensures.instance in
    let left = rw (← same) at c.settle-pushes.ensures.count in
    let grown = grown_all m.instance end.instance edits (at_node m.potentials) m.flow start (made c) in
    let changes : AreChanges m.instance end.instance edits (at_node m.potentials) m.flow end.flow c.settle-pushes.result =
    record { start = start; made = made c; pushes = rw same c.settle-pushes.ensures.pushes; count = omega (arith, ints, left, grown) } in
    subst (λ (d : TablesView). AreChanges m.instance d.moment.instance edits (at_node m.potentials) m.flow d.moment.flow c.settle-pushes.result) (sym c.self-2.view_is) changes

pub returns-clause-logged : goal.returns-clause-logged
returns-clause-logged c = rw (log_is c) c.make_all.ensures.logged
