-- Lines that are written one after the other.
use Rattle.std.proofs.Common.{◌≡◌, ℕ, ℤ, ◌+◌, ◌<◌, ◌≤◌, suc, Bool, false, List, [], ◌∷◌, ◌++◌, length, drop, get_or, pos, Option, Some, refl, sym, ap, subst, ◌∙◌, append_assoc, append-nil, if◌then◌else◌}
use Rattle.std.proofs.lemmas.List.{drop_all, drop_more}
use Rattle.std.proofs.lemmas.Option.{get_or_from_slice_get, slice_get_within}
use Rattle.std.specs.Prelude.{slice_get}
use Rattle.std.specs.Io.KnownBytes.{Appends}
use Rattle.dimacs_io.specs.Device.{AppendsBeginning}
use Rattle.dimacs_io.proofs.DeviceLemmas.{AppendsBeginning-after}
use Rattle.std.proofs.KnownBytes.{Appends-nil, Appends-trans}
use Rattle.dimacs_io.specs.Line.{potential_line, cut_line}
use Rattle.dimacs_text.specs.declared.problem.ArcRow.{ArcRow}
use Rattle.network.specs.Instance.{arc_at}
use Rattle.engines.specs.Printing.{flow_line_of, flow_lines, potential_lines, cut_lines}

-- of a whole text some was written, and the rest is still to come
pub record Wrote (before now : Option (List ℕ)) (whole rest : List ℕ) : Type 0 where
  pub done : List ℕ
  pub appends : Appends before now done
  pub parts : whole ≡ done ++ rest

pub Wrote-more : (a b c : Option (List ℕ)) (whole rest next more : List ℕ) → Wrote a b whole rest → rest ≡ next ++ more → Appends b c next → Wrote a c whole more
Wrote-more a b c whole rest next more w e p = record {
  done = w.done ++ next;
  appends = Appends-trans a b c w.done next w.appends p;
  parts = w.parts ∙ ap (λ l. w.done ++ l) e ∙ sym (append_assoc w.done next more);
}

pub Wrote-nothing : (a : Option (List ℕ)) (whole : List ℕ) → Wrote a a whole whole
Wrote-nothing a whole = record { done = []; appends = Appends-nil a; parts = refl }

pub Wrote-all : (a b : Option (List ℕ)) (whole rest : List ℕ) → Wrote a b whole rest → rest ≡ [] → Appends a b whole
Wrote-all a b whole rest w e =
    let all : whole ≡ w.done = w.parts ∙ ap (λ l. w.done ++ l) e ∙ append-nil w.done in
    rw all w.appends

pub Wrote-stopped : (a b c : Option (List ℕ)) (whole rest next more : List ℕ) → Wrote a b whole rest → rest ≡ next ++ more → AppendsBeginning b c next → AppendsBeginning a c whole
Wrote-stopped a b c whole rest next more w e p =
    let part = AppendsBeginning-after a b c w.done next w.appends p in
    let longer : whole ≡ (w.done ++ next) ++ more = w.parts ∙ ap (λ l. w.done ++ l) e ∙ sym (append_assoc w.done next more) in
    (part.0, (part.1.0 ++ more, longer ∙ ap (λ l. l ++ more) part.1.1 ∙ append_assoc part.0 part.1.0 more), part.2)

-- ---- the lines that are still to come

flow_lines-front : (arcs arcs' : List ArcRow) (flow flow' : List ℤ) (arc : ArcRow) (x : ℤ) → arcs ≡ arc ∷ arcs' → flow ≡ x ∷ flow'
    → flow_lines arcs flow ≡ flow_line_of arc x ++ flow_lines arcs' flow'
flow_lines-front arcs arcs' flow flow' arc x p q = rw (p, q) refl

pub flow_lines-step : (arcs : List ArcRow) (flow : List ℤ) (k id : ℕ) (arc : ArcRow) → id ≡ suc k → k < length flow → arc_at arcs id ≡ Some arc
    → flow_lines (drop k arcs) (drop k flow) ≡ flow_line_of arc (get_or flow k (pos 0)) ++ flow_lines (drop (k + 1) arcs) (drop (k + 1) flow)
flow_lines-step arcs flow k id arc e h at =
    let there : slice_get arcs k ≡ Some arc = subst (λ n. arc_at arcs n ≡ Some arc) e at in
    let first : get_or arcs k arc ≡ arc = get_or_from_slice_get arcs k arc arc there in
    flow_lines-front (drop k arcs) (drop (k + 1) arcs) (drop k flow) (drop (k + 1) flow) arc (get_or flow k (pos 0))
    (drop_more arcs k arc (slice_get_within arcs k arc there) ∙ ap (λ a. a ∷ drop (k + 1) arcs) first) (drop_more flow k (pos 0) h)

pub flow_lines-all : (arcs : List ArcRow) (flow : List ℤ) (k : ℕ) → length flow ≤ k → flow_lines (drop k arcs) (drop k flow) ≡ []
flow_lines-all arcs flow k h = no_flow (drop k arcs) (drop k flow) (drop_all k flow h)
  where
    no_flow : (rows : List ArcRow) (xs : List ℤ) → xs ≡ [] → flow_lines rows xs ≡ []
    no_flow [] xs e = refl
    no_flow (row ∷ rows) xs e = rw e refl

pub potential_lines-step : (potentials : List ℤ) (k : ℕ) → k < length potentials
    → potential_lines (k + 1) (drop k potentials) ≡ potential_line (k + 1) (get_or potentials k (pos 0)) ++ potential_lines (k + 1 + 1) (drop (k + 1) potentials)
potential_lines-step potentials k h = ap (potential_lines (k + 1)) (drop_more potentials k (pos 0) h)

pub cut_lines-step : (marks : List Bool) (k : ℕ) → k < length marks
    → cut_lines (k + 1) (drop k marks) ≡ (if get_or marks k false then cut_line (k + 1) else []) ++ cut_lines (k + 1 + 1) (drop (k + 1) marks)
cut_lines-step marks k h = ap (cut_lines (k + 1)) (drop_more marks k false h)
