use Rattle.std.proofs.Common.{◌≡◌, ◌<◌, length, Some, refl, ap, ◌∙◌}
use Rattle.dimacs_text.specs.Problem.{Parsed}
use Rattle.dimacs_text.specs.Lawful.{RowFits}
use Rattle.dimacs_text.proofs.RowLemmas.{read_row-ok, new_rows_are}
use Rattle.dimacs_text.proofs.SoundLemmas.{sound_row}
use Rattle.dimacs_text.proofs.TakeLemmas as law
use Rattle.dimacs_text.proofs.draft.Draft.take_first_arc.Goals as goal

pub invariant_of-self : goal.invariant_of-self
invariant_of-self c =
    let said = c.in_ok-row.ensures in
    let read = read_row-ok c.args.self.now said.fields c.in_ok-row.row said.is_read in
    let size_is : c.self.inside.size ≡ Some read.size = ap (λ (t : Parsed). t.size) c.self.view_is ∙ read.size_is in
    let room : length c.self.inside.rows.items < read.size.arcs = rw (ap (λ (t : Parsed). t.rows) c.self.view_is) read.room in
    let fits : RowFits read.size.kind c.self.inside.marks.items c.in_ok-row.row = rw (ap (λ (t : Parsed). t.marks) c.self.view_is) read.read.fits in
    rw c.push_reserved.ensures.items (sound_row _ read.size _ _ _ c.in_ok-row.row size_is c.self.invariant read.read.lawful fits room)

pub returns : goal.returns
returns c =
    let said = c.in_ok-row.ensures in
    let read = read_row-ok c.args.self.now said.fields c.in_ok-row.row said.is_read in
    let size_is : c.self.inside.size ≡ Some read.size = ap (λ (t : Parsed). t.size) c.self.view_is ∙ read.size_is in
    law.first_arc_taken c.args.self.now _ c.args.text.now c.in_ok-row.used c.requires.some c.if-used-gt-LINE_LIMIT.false c.in_ok-row.row c.requires.letter said
    (rw (← c.self.view_is, c.push_reserved.ensures.items, new_rows_are c.self.inside.size read.size said.fields c.in_ok-row.row size_is read.read.row_is) refl)
