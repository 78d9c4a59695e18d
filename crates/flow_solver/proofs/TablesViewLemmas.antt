-- What the tables of a solver keep where entries are written, and what was kept of them.
use Rattle.std.proofs.Common.{◌≡◌, ℕ, ◌+◌, ℤ, Bool, List, [], ◌∷◌, length, drop, refl, sym, ap, ◌∙◌, arith, Option, None, Some}
use Rattle.std.specs.Prelude.{IfSome}
use Rattle.std.proofs.lemmas.List.{length-drop}
use Rattle.dimacs_text.specs.declared.problem.ArcRow.{ArcRow}
use Rattle.network.specs.Instance.{Demand, Terminals, Instance, numbered_flow, with_supply}
use Rattle.residual_graph.specs.declared.graph.Graph.{Graph}
use Rattle.flow_solver.specs.declared.part.Part.{Part}
use Rattle.flow_solver.specs.declared.part.Part.TheVariants.{Supply}
use Rattle.flow_solver.specs.declared.verdict.Verdict.{Verdict}
use Rattle.tracked.specs.Touched.{NameChanges}
use Rattle.flow_solver.specs.Moment.{IsWellFormed, Snapshot, Moment, kept_of}
use Rattle.flow_solver.specs.Tables.{FitGraph, IsOfNodes}
use Rattle.residual_graph.specs.Graph.{IsGraph}
use Rattle.augmentation.specs.Nodes.{IsIdleEntry}
use Rattle.network.specs.Rows.{return_arcs}
use Rattle.flow_solver.specs.Part.{before_all, before_of}
use Rattle.augmentation.specs.ScratchView.{ScratchView}
use Rattle.tracked.specs.Tracked.{IsWritten, TrackedView}
use Rattle.residual_graph.specs.Walk.{AreRowsOf}
use Rattle.tracked.proofs.TrackedLemmas.{named_after_first}

module _ {T : Type 0} where
  pub nodes_written : (nodes : ℕ) (l m : TrackedView T) → IsOfNodes nodes l → IsWritten l m → IsOfNodes nodes m
  nodes_written nodes l m of written = record {
    entries_in = written.same_length ∙ of.entries_in;
    kept_in = ap (λ (xs : List T). length xs) written.kept ∙ of.kept_in;
  }

-- the tables fit a graph of as many nodes still, where there are as many flows as its rows and the others are written
pub fit_again : (g h : Graph) (flow flow' : TrackedView ℤ) (p p' : TrackedView ℤ) (cut cut' : TrackedView Bool) (scratch scratch' : ScratchView) →
    FitGraph g flow p cut scratch → h.net.nodes ≡ g.net.nodes → h.net.room ≡ g.net.room → IsGraph h → length flow'.entries ≡ length h.rows → length flow'.whole ≡ length h.rows → flow'.room ≡ flow.room →
    IsWritten p p' → IsIdleEntry p'.entries → IsWritten cut cut' → length scratch'.tree.labels ≡ g.net.nodes + 1 → FitGraph h flow' p' cut' scratch'
fit_again g h flow flow' p p' cut cut' scratch scratch' t nodes room_is graph flow_in flow_whole same_room p_written idle cut_written scratch_in = record {
  graph = graph;
  flow_in = flow_in;
  flow_whole = flow_whole;
  flow_fits = omega (arith, t.flow_fits, room_is, same_room);
  potentials_in = rw nodes (nodes_written g.net.nodes p p' t.potentials_in p_written);
  idle = idle;
  kept_idle = rw p_written.kept t.kept_idle;
  cut_in = rw nodes (nodes_written g.net.nodes cut cut' t.cut_in cut_written);
  scratch_in = rw nodes scratch_in;
}

-- the same where the flow is written, and the graph has as many rows
pub fit_written : (g h : Graph) (flow flow' : TrackedView ℤ) (p p' : TrackedView ℤ) (cut cut' : TrackedView Bool) (scratch scratch' : ScratchView) →
    FitGraph g flow p cut scratch → h.net.nodes ≡ g.net.nodes → h.net.room ≡ g.net.room → IsGraph h → length h.rows ≡ length g.rows → IsWritten flow flow' →
    IsWritten p p' → IsIdleEntry p'.entries → IsWritten cut cut' → length scratch'.tree.labels ≡ g.net.nodes + 1 → FitGraph h flow' p' cut' scratch'
fit_written g h flow flow' p p' cut cut' scratch scratch' t nodes room_is graph many written =
    fit_again g h flow flow' p p' cut cut' scratch scratch' t nodes room_is graph (written.same_length ∙ t.flow_in ∙ sym many) (rw written.whole (t.flow_whole ∙ sym many)) written.same_room

-- so their moment has its sizes
pub sized_written : (g h : Graph) (flow flow' : TrackedView ℤ) (p p' : TrackedView ℤ) (cut cut' : TrackedView Bool) (scratch : ScratchView) (verdict : Verdict) →
    FitGraph g flow p cut scratch → h.net.nodes ≡ g.net.nodes → AreRowsOf h.net h.rows → length h.rows ≡ length g.rows →
    IsWritten flow flow' → IsWritten p p' → IsWritten cut cut' →
    IsWellFormed (record { instance = h.net; flow = flow'.entries; potentials = drop 1 p'.entries; verdict = verdict; cut = drop 1 cut'.entries })
sized_written g h flow flow' p p' cut cut' scratch verdict t nodes of many flow_written p_written cut_written = record {
  lawful = of.lawful;
  one_flow = flow_written.same_length ∙ t.flow_in ∙ sym many ∙ ap (λ (xs : List ArcRow). length xs) of.rows_are;
  one_potential = omega (arith, length-drop 1 p'.entries, p_written.same_length, t.potentials_in.entries_in, nodes);
  one_mark = omega (arith, length-drop 1 cut'.entries, cut_written.same_length, t.cut_in.entries_in, nodes);
}

-- places that name what is changed of a flow name what is changed of the numbered arcs
named_numbered : (D : Demand) (places : List ℕ) (xs ys : List ℤ) → NameChanges 0 places xs ys → NameChanges (return_arcs D) places (numbered_flow D xs) (numbered_flow D ys)
named_numbered (Terminals source sink) places xs ys named = named_after_first places xs ys named
named_numbered _ places xs ys named = named

pub numbered_is : (D : Demand) (xs : List ℤ) → drop (return_arcs D) xs ≡ numbered_flow D xs
numbered_is D xs = grind arith

same_count : (D : Demand) (v : ℕ) (value : ℤ) → return_arcs (with_supply D v value) ≡ return_arcs D
same_count D v value = grind arith

-- how many rows come before the numbered arcs, and their flows, are the same before a change
pub return_arcs_before : (log : List Part) (I : Instance) → return_arcs (before_all log I).demand ≡ return_arcs I.demand
return_arcs_before [] I = refl
return_arcs_before (Supply v value ∷ log) I = same_count (before_all log I).demand v value ∙ return_arcs_before log I
return_arcs_before (_ ∷ log) I = return_arcs_before log I

pub numbered_before : (log : List Part) (I : Instance) (xs : List ℤ) → numbered_flow (before_all log I).demand xs ≡ drop (return_arcs I.demand) xs
numbered_before log I xs = sym (numbered_is (before_all log I).demand xs) ∙ ap (λ (n : ℕ). drop n xs) (return_arcs_before log I)

-- places that name what is changed since the flow before a change
pub named_before : (log : List Part) (I : Instance) (places : List ℕ) (xs ys : List ℤ) → NameChanges 0 places xs ys → NameChanges (return_arcs (before_all log I).demand) places (numbered_flow (before_all log I).demand xs) (numbered_flow I.demand ys)
named_before log I places xs ys named =
    rw (return_arcs_before log I, numbered_before log I xs ∙ numbered_is I.demand xs) (named_numbered I.demand places xs ys named)

-- what holds of what was kept, with any verdict, holds of the moment before, where there is one
pub since : (told : Option Verdict) (I : Instance) (kept : Snapshot) (P : Moment → Type 0) → ((verdict : Verdict) → P (record { instance = before_all kept.log I; flow = kept.flow; potentials = kept.potentials; verdict = verdict; cut = kept.cut })) → IfSome (before_of told I kept) P
since None I kept P is = tt
since (Some verdict) I kept P is = is verdict

-- what is kept of a moment, with its instance and verdict, is that moment
pub moment_kept : (I : Instance) (kept : Snapshot) (verdict : Verdict) (m : Moment) → I ≡ m.instance → kept ≡ record (kept_of m) { log = kept.log } → verdict ≡ m.verdict → record { instance = I; flow = kept.flow; potentials = kept.potentials; verdict = verdict; cut = kept.cut } ≡ m
moment_kept I kept verdict m one two three i = record { instance = one i; flow = (two i).flow; potentials = (two i).potentials; verdict = three i; cut = (two i).cut }
