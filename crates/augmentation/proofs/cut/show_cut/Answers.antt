use Rattle.std.proofs.Common.{ℕ, ℤ, List, length, subst}
use Rattle.std.specs.Prelude.{IfSome, None, Option, Some}
use Rattle.flow_changes.specs.Exchange.{IsExchange}
use Rattle.flow_changes.proofs.ChangeLemmas.{pushes_of_change}
use Rattle.cuts.specs.Cut.{IsCutOf, IsShownBy}
use Rattle.augmentation.proofs.cut.show_cut.Goals as goal

-- what follows from what is told where something is told
told_too : (P Q : ℕ → Type 0) → ((d : ℕ) → P d → Q d) → (r : Option ℕ) → IfSome r P → IfSome r Q
told_too P Q follows None told = tt
told_too P Q follows (Some d) told = follows d told

pub returns-clause-shown : goal.returns-clause-shown
returns-clause-shown c =
    let rows = c.args.graph.now.rows in
    let x = c.args.flow.now.entries in
    let e = c.args.excess.now in
    let y = c.lead.new.flow.entries in
    let f = c.lead.new.excess in
    let set = c.mark_cut_of-shown.new.cut.entries in
    let n = c.in_ok-lead.field-0 in
    let moved : IsExchange (length e) rows n x e y f = c.in_ok-lead.ensures.led.exchange in
    told_too (λ (d : ℕ). IsCutOf rows y f d set) (λ (d : ℕ). IsShownBy rows x e d set)
    (λ d cut. record {
      flow = y;
      excess = f;
      count = n;
      sized = moved.change.after_sized;
      within = moved.change.after;
      pushes = pushes_of_change (length e) rows x e y f moved.ranks moved.change n moved.units;
      cut = cut;
    })
    c.mark_cut_of-shown.result
    (subst (λ (z : List ℤ). IfSome c.mark_cut_of-shown.result (λ d. IsCutOf rows z f d set)) c.entries-2.ensures c.mark_cut_of-shown.ensures.cut)
