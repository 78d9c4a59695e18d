use Rattle.std.proofs.Common.{◌≡◌, length, Some, sym, ap, ◌∙◌, arith}
use Rattle.std.proofs.lemmas.Bool.{eqb-true}
use Rattle.dimacs_text.specs.Problem.{Parsed}
use Rattle.dimacs_text.proofs.PlainLemmas.{mark_said}
use Rattle.dimacs_text.proofs.draft.Draft.first_mark.Goals as goal

pub returns-in-Min : goal.returns-in-Min
returns-in-Min c =
    let told = c.args.self.now in let size = c.in_ok-size.size in
    let size_is : told.size ≡ Some size = sym (ap (λ (t : Parsed). t.size) c.self.view_is) ∙ c.in_ok-size.was in
    let empty = eqb-true _ 0 (sym c.is_empty.ensures ∙ c.if-not-is_empty.false) in
    let none : length told.rows ≡ 0 = omega (arith, empty, ap (λ (t : Parsed). length t.rows) c.self.view_is, c.self.inside.rows.ok) in
    mark_said told size c.args.text.now size_is c.first_supply.result none (rw c.in-Min.is c.first_supply.ensures)

pub returns-in-Asn : goal.returns-in-Asn
returns-in-Asn c =
    let told = c.args.self.now in let size = c.in_ok-size.size in
    let size_is : told.size ≡ Some size = sym (ap (λ (t : Parsed). t.size) c.self.view_is) ∙ c.in_ok-size.was in
    let empty = eqb-true _ 0 (sym c.is_empty.ensures ∙ c.if-not-is_empty.false) in
    let none : length told.rows ≡ 0 = omega (arith, empty, ap (λ (t : Parsed). length t.rows) c.self.view_is, c.self.inside.rows.ok) in
    mark_said told size c.args.text.now size_is c.first_side.result none (rw c.in-Asn.is c.first_side.ensures)
