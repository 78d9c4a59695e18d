use Rattle.std.proofs.Common.{◌≡◌, Bool, List, arith, subst, sym}
use Rattle.residual_graph.specs.declared.side.Side.{Side}
use Rattle.residual_graph.specs.declared.side.Side.TheVariants.{Ahead, Behind}
use Rattle.cuts.specs.Cut.{AreOnSide}
use Rattle.flow_changes.specs.Push.{left}
use Rattle.augmentation.proofs.cut.mark_cut_of.Goals as goal

pub returns-then-left-gt0-clause-cut : goal.returns-then-left-gt0-clause-cut
returns-then-left-gt0-clause-cut c =
    let rows = c.args.on.graph.now.rows in
    let x = c.args.on.flow.now in
    let e = c.args.excess.now in
    let ahead : AreOnSide Ahead rows x e c.mark_side.new.marked = subst (λ (s : Side). AreOnSide s rows x e c.mark_side.new.marked) c.requires.ahead c.mark_side.ensures.side in
    record {
      side = record {
        in_excess = λ some. subst (λ (set : List Bool). AreOnSide Ahead rows x e set) (sym c.take.ensures.entries) ahead;
        no_excess = λ none. absurd (omega (arith, none, c.amount-left.ensures, c.if-left-gt0.true));
      };
      parted = record {
        set = c.mark_side.new.marked;
        closed = ahead.closed;
        holds = ahead.holds;
        no_deficit = c.has_deficit_among.ensures c.if-has_deficit_among.false;
      };
      some = c.if-left-gt0.true;
      in_excess = λ some. c.amount-left.ensures;
      no_excess = λ none. absurd (omega (arith, none, c.amount-left.ensures, c.if-left-gt0.true));
    }

pub returns-clause-cut : goal.returns-clause-cut
returns-clause-cut c =
    let rows = c.args.on.graph.now.rows in
    let x = c.args.on.flow.now in
    let e = c.args.excess.now in
    let ahead : AreOnSide Ahead rows x e c.mark_side.new.marked = subst (λ (s : Side). AreOnSide s rows x e c.mark_side.new.marked) c.requires.ahead c.mark_side.ensures.side in
    let none : left e ≡ 0 = omega (arith, c.amount-left.ensures, c.if-left-gt0.false) in
    record {
      side = record {
        in_excess = λ some. absurd (omega (arith, some, none));
        no_excess = λ is. subst (λ (set : List Bool). AreOnSide Behind rows x e set) (sym c.take-2.ensures.entries) c.mark_side-2.ensures.side;
      };
      parted = record {
        set = c.mark_side.new.marked;
        closed = ahead.closed;
        holds = ahead.holds;
        no_deficit = c.has_deficit_among.ensures c.if-has_deficit_among.false;
      };
      some = omega (arith, c.if-lack-eq0.false);
      in_excess = λ some. absurd (omega (arith, some, none));
      no_excess = λ is. c.amount-lack.ensures;
    }
