-- The set of nodes that a search without an end reached parts those in excess from those in deficit.
use Rattle.std.proofs.Common.{◌≡◌, ℕ, zero, suc, ◌<◌, ℤ, List, [], ◌∷◌, length, map, refl, sym, ap, ◌∙◌, inl, inr, arith, Bool, true, false, not}
use Rattle.std.proofs.lemmas.Bool.{false≢true}
use Rattle.std.proofs.lemmas.List.{length-map}
use Rattle.dimacs_text.specs.declared.problem.ArcRow.{ArcRow}
use Rattle.residual_graph.specs.Residual.{IsPseudoflow, row_at, start_at, end_at}
use Rattle.residual_graph.proofs.RowLemmas.{end_of-in}
use Rattle.predecessors.specs.declared.predecessor.Predecessor.{Predecessor}
use Rattle.predecessors.specs.Predecessor.{predecessor_at}
use Rattle.shortest_paths.specs.Search.{IsExhausted, IsReached}
use Rattle.shortest_paths.proofs.SearchLemmas.{open_or_reached}
use Rattle.cuts.specs.Cut.{IsParted}
use Rattle.cuts.proofs.CutLemmas.{marked_in}
use Rattle.tracked.specs.Marks.{in_set}

-- the nodes that a search from the nodes in excess reached at its end
abbrev reached_set : List Predecessor → List Bool
reached_set s = map (λ r. not r.is_open) s

in_reached : (s : List Predecessor) (v : ℕ) → v < length s → in_set (reached_set s) v ≡ not (predecessor_at s v).is_open
in_reached [] v lt = absurd (omega arith)
in_reached (r ∷ s) zero lt = refl
in_reached (r ∷ s) (suc v) lt = in_reached s v (omega arith)

module _ (arcs : List ArcRow) (x e : List ℤ) (s : List Predecessor) (flow : IsPseudoflow (length e) arcs x) (exhausted : IsExhausted arcs x e s) where
  reached_in : (v : ℕ) → IsReached s v → in_set (reached_set s) v ≡ true
  reached_in v reached = in_reached s v reached.0 ∙ ap not reached.1

  is_reached : (v : ℕ) → in_set (reached_set s) v ≡ true → IsReached s v
  is_reached v marked =
      let length_reached : length (map (λ (r : Predecessor). not r.is_open) s) ≡ length s = length-map s (λ (r : Predecessor). not r.is_open) in
      let lt : v < length s = omega (arith, marked_in (reached_set s) v marked, length_reached) in
      (lt, not_from_false' (predecessor_at s v).is_open (sym (in_reached s v lt) ∙ marked))
    where
      not_from_false' : (b : Bool) → not b ≡ true → b ≡ false
      not_from_false' true h = absurd (false≢true h)
      not_from_false' false h = refl

  pub parted_exhausted : IsParted arcs x e
  parted_exhausted = record {
    set = reached_set s;
    closed = λ k way residual start. elim (open_or_reached s (end_at arcs k way) (rw exhausted.sized (end_of-in (length e) (row_at arcs k) way (flow.rows k residual.is_arc)))) [
      | inl is_open ↦ absurd (exhausted.none_crosses k way (record { residual = residual; from = is_reached (start_at arcs k way) start; to = is_open }))
      | inr reached ↦ reached_in (end_at arcs k way) reached
    ];
    holds = λ v high. reached_in v (exhausted.from.sources v high);
    no_deficit = λ v marked. exhausted.from.no_deficit v (is_reached v marked);
  }
