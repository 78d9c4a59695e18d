-- Texts that are alike, put together.
use Rattle.std.proofs.Common.{◌≡◌, ℕ, ℤ, List, [], ◌∷◌, ◌++◌, inl, inr, refl, sym, ap₂, subst, ◌∙◌}
use Rattle.std.proofs.lemmas.List.{append-nil}
use Rattle.std.proofs.lemmas.List.Folds.{concat-append}
use Rattle.std.specs.List.{AllZip, concat}
use Rattle.dimacs_io.specs.Line.{flow_line}
use Rattle.dimacs_text.specs.declared.problem.ArcRow.{ArcRow}
use Rattle.network.specs.Flow.{AllWithinBounds}
use Rattle.engines.specs.Printing.{flow_lines}
use Rattle.run_laws.specs.Texts.{ArePiecesAlike, DifferInFlows}
use Rattle.run_laws.proofs.Lists.{joined}

pub same : (x : List ℕ) → DifferInFlows x x
same x = record { pieces = x ∷ []; other_pieces = x ∷ []; text_is = sym (append-nil x); other_is = sym (append-nil x); alike = (inl refl, tt) }

pub same_by : (x y : List ℕ) → y ≡ x → DifferInFlows x y
same_by x y e = subst (λ (z : List ℕ). DifferInFlows x z) (sym e) (same x)

one_line : (tail head : ℕ) (flow other : ℤ) → DifferInFlows (flow_line tail head flow) (flow_line tail head other)
one_line tail head flow other = record {
  pieces = flow_line tail head flow ∷ [];
  other_pieces = flow_line tail head other ∷ [];
  text_is = sym (append-nil (flow_line tail head flow));
  other_is = sym (append-nil (flow_line tail head other));
  alike = (inr (record { tail = tail; head = head; flow = flow; other_flow = other; line_is = refl; other_is = refl }), tt);
}

pub together : (x y u v : List ℕ) → DifferInFlows x y → DifferInFlows u v → DifferInFlows (x ++ u) (y ++ v)
together x y u v a b = record {
  pieces = a.pieces ++ b.pieces;
  other_pieces = a.other_pieces ++ b.other_pieces;
  text_is = ap₂ (λ (s t : List ℕ). s ++ t) a.text_is b.text_is ∙ sym (concat-append a.pieces b.pieces);
  other_is = ap₂ (λ (s t : List ℕ). s ++ t) a.other_is b.other_is ∙ sym (concat-append a.other_pieces b.other_pieces);
  alike = joined ArePiecesAlike a.pieces a.other_pieces b.pieces b.other_pieces a.alike b.alike;
}

pub flows_alike : (arcs : List ArcRow) (flow other : List ℤ) → AllWithinBounds arcs flow → AllWithinBounds arcs other → DifferInFlows (flow_lines arcs flow) (flow_lines arcs other)
flows_alike [] flow other a b = same []
flows_alike (arc ∷ arcs) [] other a b = absurd a
flows_alike (arc ∷ arcs) (x ∷ flow) [] a b = absurd b
flows_alike (arc ∷ arcs) (x ∷ flow) (y ∷ other) a b =
    together (flow_line arc.tail arc.head x) (flow_line arc.tail arc.head y) (flow_lines arcs flow) (flow_lines arcs other)
    (one_line arc.tail arc.head x y) (flows_alike arcs flow other a.1 b.1)

-- texts that are alike in turn are alike when they are joined
pub all_together : (texts others : List (List ℕ)) → AllZip DifferInFlows texts others → DifferInFlows (concat texts) (concat others)
all_together [] [] all = same []
all_together [] (y ∷ others) all = absurd all
all_together (x ∷ texts) [] all = absurd all
all_together (x ∷ texts) (y ∷ others) all = together x y (concat texts) (concat others) all.0 (all_together texts others all.1)
