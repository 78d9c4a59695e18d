-- A network stays lawful where it is changed, and its rows are those of its graph.
use Rattle.std.proofs.Common.{◌≡◌, ℕ, ◌<◌, [], ◌∷◌, ◌++◌, length, refl, sym, arith, slice_set}
use Rattle.std.proofs.lemmas.List.{length-set, length-append, get_or_append_left}
use Rattle.std.proofs.lemmas.List.Elements.{All-set, All-push}
use Rattle.dimacs_text.specs.declared.problem.ArcRow.{ArcRow}
use Rattle.dimacs_text.specs.Lawful.{IsLawfulRow}
use Rattle.network.specs.Edited.{with_last}
use Rattle.network.specs.Instance.{Instance, IsLawful, ArcFits, reduced}
use Rattle.network.proofs.Rows.{rows_counted, rows_push}
use Rattle.residual_graph.specs.Graph.{graph_of, IsGraph}

-- ---- another row

-- the instance with one arc changed
abbrev pub with_row : Instance → ℕ → ArcRow → Instance
with_row I i row = record { nodes = I.nodes; demand = I.demand; arcs = slice_set I.arcs i row; room = I.room }

pub lawful_row : (I : Instance) (i : ℕ) (row : ArcRow) → IsLawful I → IsLawfulRow I.nodes row → ArcFits I.demand row → IsLawful (with_row I i row)
lawful_row I i row lawful limits fits = record {
  nodes = lawful.nodes;
  demand = lawful.demand;
  arcs = All-set (λ arc. IsLawfulRow I.nodes arc × ArcFits I.demand arc) I.arcs i row (limits, fits) lawful.arcs;
  count = (let l = length-set I.arcs i row in omega (arith, lawful.count));
  room = lawful.room;
}

-- ---- one arc more or less at the end

pub lawful_more : (I : Instance) (row : ArcRow) → IsLawful I → length I.arcs < I.room → IsLawfulRow I.nodes row → ArcFits I.demand row → IsLawful (with_last I row)
lawful_more I row lawful free limits fits = record {
  nodes = lawful.nodes;
  demand = lawful.demand;
  arcs = All-push (λ arc. IsLawfulRow I.nodes arc × ArcFits I.demand arc) I.arcs row lawful.arcs (limits, fits);
  count = omega (arith, length-append I.arcs (row ∷ []));
  room = lawful.room;
}

pub lawful_less : (I : Instance) (row : ArcRow) → IsLawful (with_last I row) → IsLawful I
lawful_less I row lawful =
    let more = length-append I.arcs (row ∷ []) in
    record {
      nodes = lawful.nodes;
      demand = lawful.demand;
      arcs = λ k d h. rw (get_or_append_left I.arcs (row ∷ []) d k h) at (lawful.arcs k d (omega arith));
      count = omega (arith, lawful.count);
      room = lawful.room;
    }

-- ---- the rows

pub is_graph : (I : Instance) → IsLawful I → IsGraph (graph_of I)
is_graph I lawful = record { rows = record { lawful = lawful; rows_are = refl } }

pub as_many : (I : Instance) (i : ℕ) (row : ArcRow) → length (reduced (with_row I i row)).arcs ≡ length (reduced I).arcs
as_many I i row = omega (arith, rows_counted I.demand I.arcs, rows_counted I.demand (slice_set I.arcs i row), length-set I.arcs i row)

pub rows_more : (I : Instance) (row : ArcRow) → (reduced (with_last I row)).arcs ≡ (reduced I).arcs ++ row ∷ []
rows_more I row = sym (rows_push I.demand I.arcs row)
