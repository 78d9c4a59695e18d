use Rattle.std.proofs.Common.{◌≡◌, ◌<◌, length, Some, refl, sym, ap, ◌∙◌, arith}
use Rattle.dimacs_text.specs.declared.problem.Kind.TheVariants.{Max}
use Rattle.dimacs_text.specs.Problem.{Parsed}
use Rattle.dimacs_text.specs.Lawful.{MarksFit}
use Rattle.dimacs_text.proofs.SoundLemmas.{sized}
use Rattle.dimacs_text.proofs.PlainLemmas.{both_named, row_said}
use Rattle.dimacs_text.proofs.draft.Draft.first_arc.Goals as goal

pub returns-in-Min : goal.returns-in-Min
returns-in-Min c =
    let told = c.args.self.now in let size = c.in_ok-size.size in
    let size_is : told.size ≡ Some size = sym (ap (λ (t : Parsed). t.size) c.self.view_is) ∙ c.in_ok-size.was in
    let room : length told.rows < size.arcs = omega (arith, c.len.ensures, c.if-size-len.false, ap (λ (t : Parsed). length t.rows) c.self.view_is, c.self.inside.rows.ok) in
    row_said told size c.args.text.now size_is c.first_min_row.result (rw c.in-Min.is refl) room (rw c.in-Min.is c.first_min_row.ensures)

pub returns-else-len-ne2 : goal.returns-else-len-ne2
returns-else-len-ne2 c =
    let told = c.args.self.now in let size = c.in_ok-size.size in
    let size_is : told.size ≡ Some size = sym (ap (λ (t : Parsed). t.size) c.self.view_is) ∙ c.in_ok-size.was in
    let room : length told.rows < size.arcs = omega (arith, c.len.ensures, c.if-size-len.false, ap (λ (t : Parsed). length t.rows) c.self.view_is, c.self.inside.rows.ok) in
    let before = sized c.self.inside.size size _ _ _ c.in_ok-size.was c.self.invariant in
    let fit : MarksFit Max c.self.inside.marks.items = rw c.in-Max.is at before.kept.marks_fit in
    let two : length c.self.inside.marks.items ≡ 2 = omega (arith, c.len-in-Max.ensures, c.if-len-ne2.false, c.self.inside.marks.ok) in
    row_said told size c.args.text.now size_is c.first_max_row.result (rw (c.in-Max.is, ← ap (λ (t : Parsed). t.marks) c.self.view_is) (both_named c.self.inside.marks.items fit two)) room (rw c.in-Max.is c.first_max_row.ensures)

pub returns-in-Asn : goal.returns-in-Asn
returns-in-Asn c =
    let told = c.args.self.now in let size = c.in_ok-size.size in
    let size_is : told.size ≡ Some size = sym (ap (λ (t : Parsed). t.size) c.self.view_is) ∙ c.in_ok-size.was in
    let room : length told.rows < size.arcs = omega (arith, c.len.ensures, c.if-size-len.false, ap (λ (t : Parsed). length t.rows) c.self.view_is, c.self.inside.rows.ok) in
    row_said told size c.args.text.now size_is c.first_asn_row.result (rw c.in-Asn.is refl) room (rw c.in-Asn.is c.first_asn_row.ensures)
