use Rattle.std.proofs.Common.{◌≡◌, ◌∙◌, ◌<◌, ◌+◌, ℕ, ℤ, List, pos, length, true, ap, arith, rules, sym, subst, w64, SFits, to_z, of_z}
use Rattle.std.proofs.lemmas.Bool.{false≢true}
use Rattle.std.proofs.lemmas.Int.{to_z-of_z}
use Rattle.std.proofs.lemmas.List.{get_or_default, length-set}
use Rattle.residual_graph.specs.Residual.{number_at}
use Rattle.residual_graph.specs.Side.{IsRoot}
use Rattle.tracked.specs.Marks.{in_set}
use Rattle.cuts.specs.Excess.{AreUnbalancedListed}
use Rattle.tracked.specs.NodeLists.{node_at}
use Rattle.tracked.proofs.TouchedLemmas.{noted_in}
use Rattle.cuts.proofs.ExcessLemmas.{AreRootsMarked, no_root_passed, root_listed, root_marked}
use Rattle.cuts.proofs.side.mark_roots.Goals as goal
use Rattle.cuts.proofs.side.mark_roots.Goals.{then-is_root, else-is_root}

pub loop-j-preserved : goal.loop-j-preserved
loop-j-preserved c =
    let places = c.places-places.result.now in
    let v = node_at places c.loop-j.j in
    let e = c.excess.inside.entries.items in
    let are = c.loop-j.invariant.are in
    let sized = c.loop-j.invariant.same_size in
    let noted = noted_in c.excess.inside.unbalanced v (c.places-places.ensures.noted c.loop-j.j 0 c.loop-j-test.true) in
    let there : v < length c.loop-j.marked = omega (arith, noted, c.excess.invariant.0.one_a_node, ap (λ (xs : List ℤ). length xs) c.excess.view_is, c.requires.marked_in, sized) in
    let fits : SFits w64 c.index.result.now = search rules in
    let entry : to_z w64 (of_z w64 c.index.result.now) ≡ number_at c.args.excess.now v =
    to_z-of_z w64 c.index.result.now fits ∙ c.index.ensures ∙ get_or_default e v c.index.result.now (pos 0) (omega (arith, noted, c.excess.invariant.0.one_a_node)) ∙ ap (λ (xs : List ℤ). number_at xs v) c.excess.view_is in
    elim c.if-is_root.branch [
      | then-is_root w ↦ (let root = subst (IsRoot c.args.side) entry (c.is_root.ensures.0 w.if-is_root.true) in
          let marks = w.marked-is ∙ w.note.ensures in
          record {
            same_size = ap length marks ∙ length-set _ _ _ ∙ sized;
            are = subst (AreRootsMarked c.args.side c.args.excess.now places (c.loop-j.j + 1)) (sym marks) (root_marked c.args.side c.args.excess.now places c.loop-j.j c.loop-j.marked are there root);
          })
      | else-is_root w ↦ record {
        same_size = ap length w.marked-is ∙ sized;
        are = subst (AreRootsMarked c.args.side c.args.excess.now places (c.loop-j.j + 1)) (sym w.marked-is)
            (no_root_passed c.args.side c.args.excess.now places c.loop-j.j c.loop-j.marked are (λ root. false≢true (sym w.if-is_root.false ∙ c.is_root.ensures.1 (subst (IsRoot c.args.side) (sym entry) root))));
      }
    ]

pub returns-clause-marked : goal.returns-clause-marked
returns-clause-marked c = λ v.
    (let are = c.loop-j.invariant.are in
    let places = c.places-places.result.now in
    let listed = subst (AreUnbalancedListed c.excess.inside.unbalanced) c.excess.view_is c.excess.invariant.0 in (
      are.roots v,
      λ root.
          (let at = root_listed c.args.side c.excess.inside.unbalanced c.args.excess.now places listed c.places-places.ensures.listed v root in
          let there = are.marked at.place (omega (arith, at.in_list)) (subst (λ (q : ℕ). IsRoot c.args.side (number_at c.args.excess.now q)) (sym at.is_there) root) in
          subst (λ (q : ℕ). in_set c.loop-j.marked q ≡ true) at.is_there there),
    ))
