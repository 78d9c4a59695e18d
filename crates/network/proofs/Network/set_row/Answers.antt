use Rattle.std.proofs.Common.{◌≡◌, ◌∙◌, ℕ, ◌+◌, ◌-◌, ◌<◌, List, ap, length, length-set, set, arith}
use Rattle.dimacs_text.specs.declared.problem.ArcRow.{ArcRow}
use Rattle.network.specs.Instance.{reduced_arcs}
use Rattle.network.specs.Representation.{arcs_in, demand_by}
use Rattle.network.proofs.EndLinks.{lists_same, end_node-set}
use Rattle.network.proofs.Growth.{lawful_set}
use Rattle.network.proofs.Rows.{instance_is, rows_set, sound_of}
use Rattle.network.proofs.Network.set_row.Goals as goal
use Rattle.network.proofs.Network.set_row.Goals.{After-return_arcs}

-- the rows once the row is in
rows : (c : After-return_arcs) → set c.self.inside.rows.items (c.return_arcs.result + (c.args.k - 1)) c.args.row
    ≡ reduced_arcs (demand_by c.self.inside.goal c.self.inside.supplies.items) (set (arcs_in c.self.inside.goal c.self.inside.rows.items) (c.args.k - 1) c.args.row)
rows c =
    let n = c.self.inside in
    let arcs = arcs_in n.goal n.rows.items in
    ap (λ (r : List ArcRow). set r (c.return_arcs.result + (c.args.k - 1)) c.args.row) c.self.invariant.rows_are
    ∙ ap (λ (f : ℕ). set (reduced_arcs (demand_by n.goal n.supplies.items) arcs) (f + (c.args.k - 1)) c.args.row) c.return_arcs.ensures
    ∙ rows_set n.goal n.supplies.items arcs (c.args.k - 1) c.args.row

pub invariant_of-self : goal.invariant_of-self
invariant_of-self c =
    let sound = c.self.invariant in
    let limits = rw (← c.self.view_is) at c.requires.limits in
    let fits = rw (← c.self.view_is) at c.requires.fits in
    let arc = rw (← c.self.view_is) at c.requires.arc in
    let arcs = arcs_in c.self.inside.goal c.self.inside.rows.items in
    let inside : c.args.k - 1 < length arcs = omega (arith, arc.0, arc.1) in
    let tail = rw (← c.self.view_is) at c.requires.tail in
    let head = rw (← c.self.view_is) at c.requires.head in
    sound_of _ _ _ (set arcs (c.args.k - 1) c.args.row) (rows (goal.at.invariant_of-self c).After-return_arcs) _ _ _ _ _ _
    (lawful_set _ _ _ arcs _ (c.args.k - 1) c.args.row sound.lawful limits fits)
    sound.supplies_len sound.supply_is sound.supplies_small
    (lists_same arcs _ (end_node-set arcs (c.args.k - 1) c.args.row inside tail head) _ _ _ (length-set arcs (c.args.k - 1) c.args.row) sound.lists)
    sound.rows_fit sound.ends_fit

pub returns : goal.returns
returns c =
    rw (← c.self.view_is) (instance_is c.self.inside.goal c.self.inside.supplies.items _ _ (rows (goal.at.returns c).After-return_arcs) c.self.inside.nodes c.self.inside.room)
