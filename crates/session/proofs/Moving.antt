-- A record that fits and names only what differs is the record between its moment and the one that it leads to.
use Rattle.std.proofs.Common.{◌≡◌, ℕ, inl, inr, ◌⊎◌, ◌+◌, ◌<◌, ◌≤◌, Option, Some, None, IsNone, IfSome, List, [], Bor, length, get_or, slice_get, refl, sym, ap, ◌∙◌, arith}
use mathlib.Core.Bool.{false≢true}
use Rattle.std.specs.Option.{option_copied}
use Rattle.std.proofs.lemmas.Option.{slice_get_cases, get_or_from_slice_get, slice_get_within}
use Rattle.std.proofs.lemmas.List.{nil_from_length}
use Rattle.history.specs.Boards.{Changes, all_changes}
use Rattle.history.proofs.Timelines.{holds_past, holds_future}
use Rattle.flow_solver.specs.Moment.{Moment}
use Rattle.session.specs.declared.marks.Mark.{Mark}
use Rattle.session.specs.Parts.{Named, named, flow_of, IsOneEnd}
use Rattle.session.proofs.Supplies.{has_supply}
use Rattle.session.specs.Record.{Recorded, RecordFits, Differs, with_record, record_turned}
use Rattle.session.specs.RecordLaws.{flow_of-swapped, flows_came, go_there}
use Rattle.session.specs.Session.{stack_of, moment_at, IsHistoryAt, IsRecord, PartsTell}
use Rattle.session.proofs.Exact.{exact_difference, exact_exchange}

-- the parts name places of the moment, and tell of the one that the record leads to
parts_tell : (r : Recorded) (m : Moment) → RecordFits r m → PartsTell r.parts m (with_record r m)
parts_tell r m fits =
    let fit = fits.parts.fit in
    let D = m.instance.demand in
    record {
      normal = fits.parts.normal;
      nodes = (fit.supplies.rising, λ k d below. let at = fit.supplies.within k d below in (has_supply m.instance.nodes D _ fits.in_range.lawful.demand at.0 at.1).1);
      arcs = (fit.rows.rising, fit.rows.within);
      go = fit.go;
      one_end = fit.one_end;
      one_flow = fit.one_flow;
      flows = flows_came r m fits;
      instance = refl;
    }

-- where no arcs come no flows come
flows_end : (N : Named) → IsOneEnd N → length N.come_flows ≡ length N.come_rows → (N.go ≡ 0) ⊎ (N.come_flows ≡ [])
flows_end N (inl none) same = inl none
flows_end N (inr none) same = inr (nil_from_length N.come_flows (omega (arith, same, ap length none)))

pub is_record : (r : Recorded) (m : Moment) → RecordFits r m → Differs r m → IsRecord r m (with_record r m)
is_record r m fits differs =
    let N : Named = named r.parts in
    record {
      parts = parts_tell r m fits;
      flows =
          rw (flow_of-swapped r m fits.verdict)
          (exact_difference r.flows N.go N.come_flows (flow_of m) (go_there r m fits) fits.flows.rising fits.flows.within differs.flows (flows_end N fits.parts.fit.one_end fits.parts.fit.one_flow));
      potentials = exact_exchange r.potentials m.potentials fits.potentials.rising fits.potentials.within differs.potentials;
      marks = exact_exchange r.marks m.cut fits.marks.rising fits.marks.within differs.marks;
      verdict = refl;
    }

-- a record is there for each step
pub moved_there : (rs : List Recorded) (i : ℕ) (o : Option (Bor Recorded)) → option_copied o ≡ slice_get rs i → (IsNone o → length rs ≤ i) × (length rs ≤ i → IsNone o)
moved_there rs i None is = elim (slice_get_cases rs i).1 [
  | inl (r, below, there, at) ↦
      let no : ◌≡◌ {A = Option Recorded} None (Some r) = is ∙ there in
      cc
  | inr (above, there) ↦ (λ none. above, λ h. refl)
]
moved_there rs i (Some r) is = elim (slice_get_cases rs i).1 [
  | inl (x, below, there, at) ↦ (λ none. absurd (false≢true (sym none)), λ above. absurd (omega arith))
  | inr (above, there) ↦
      let no : ◌≡◌ {A = Option Recorded} (Some r.now) None = is ∙ there in
      cc
]

module _ (h : Changes Recorded) (m : Moment) (marks : List Mark) (kept : IsHistoryAt h m) (i : ℕ) where
  pub moved_past : (o : Option (Bor Recorded)) → option_copied o ≡ slice_get (all_changes h) i → i < length h.past → IfSome o (λ r. IsRecord r.now (moment_at (stack_of h m marks) (i + 1)) (moment_at (stack_of h m marks) i))
  moved_past None is below = tt
  moved_past (Some r) is below =
      let read = get_or_from_slice_get (all_changes h) i r.now r.now (sym is) in
      let fits = holds_past RecordFits record_turned with_record h m kept.stands i r.now m below in
      let exact = holds_past Differs record_turned with_record h m kept.exact i r.now m below in
      rw read at (rw fits.1 at (is_record (get_or (all_changes h) i r.now) _ fits.0 exact.0))

  pub moved_future : (o : Option (Bor Recorded)) → option_copied o ≡ slice_get (all_changes h) i → length h.past ≤ i → IfSome o (λ r. IsRecord r.now (moment_at (stack_of h m marks) i) (moment_at (stack_of h m marks) (i + 1)))
  moved_future None is above = tt
  moved_future (Some r) is above =
      let below = slice_get_within (all_changes h) i r.now (sym is) in
      let read = get_or_from_slice_get (all_changes h) i r.now r.now (sym is) in
      let fits = holds_future RecordFits record_turned with_record h m kept.stands i r.now m above below in
      let exact = holds_future Differs record_turned with_record h m kept.exact i r.now m above below in
      rw read at (rw fits.1 at (is_record (get_or (all_changes h) i r.now) _ fits.0 exact.0))
