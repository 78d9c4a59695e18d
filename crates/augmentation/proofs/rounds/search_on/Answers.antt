use Rattle.std.proofs.Common.{◌∙◌, ℕ, ℤ, List, length, sym, MatchOption, Some, None}
use Rattle.std.specs.Prelude.{Option}
use Rattle.std.proofs.lemmas.Bool.{false≢true}
use Rattle.dimacs_text.specs.declared.problem.ArcRow.{ArcRow}
use Rattle.residual_graph.specs.Residual.{IsPseudoflow}
use Rattle.predecessors.specs.declared.predecessor.Predecessor.{Predecessor}
use Rattle.shortest_paths.specs.Search.{HasFound, IsDeficitFound}
use Rattle.cuts.specs.Cut.{IsParted}
use Rattle.augmentation.proofs.CutLemmas.{parted_exhausted}
use Rattle.cuts.proofs.CutLemmas.{parted_unless_both}
use Rattle.augmentation.proofs.rounds.search_on.Goals as goal

pub returns-then-not-has_both-clause-found : goal.returns-then-not-has_both-clause-found
returns-then-not-has_both-clause-found c =
    parted_unless_both c.args.graph.now.rows c.args.flow.now.entries c.args.excess.now
    (rw c.requires.state.excess_in c.requires.state.certified.flow) (λ both. false≢true (sym c.if-not-has_both.true ∙ c.has_both.ensures.1 both))

by_result : (rows : List ArcRow) (x p e : List ℤ) (t : List Predecessor) (found : Option ℕ) → IsPseudoflow (length e) rows x → IsDeficitFound rows x p e t found → MatchOption found (IsParted rows x e) (HasFound rows x p e t)
by_result rows x p e t None flow done = parted_exhausted rows x e t flow done
by_result rows x p e t (Some v) flow found = found

pub returns-clause-found : goal.returns-clause-found
returns-clause-found c =
    let t = c.search_from_excess.new.self in
    by_result c.args.graph.now.rows c.args.flow.now.entries t.labels c.args.excess.now t.predecessors c.search_from_excess.result (rw c.requires.state.excess_in c.requires.state.certified.flow)
    (rw (c.entries-2.ensures, c.entries-3.ensures) at c.search_from_excess.ensures.found)
