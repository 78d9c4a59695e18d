use Rattle.std.proofs.Common.{◌≡◌, [], ◌∷◌, ◌++◌, Some, refl, ap, ◌∙◌, arith}
use Rattle.dimacs_text.specs.Problem.{Parsed, is_named, node_of}
use Rattle.dimacs_text.specs.Lawful.{MarksFit}
use Rattle.dimacs_text.proofs.RowLemmas.{read_mark-ok, new_marks_are}
use Rattle.dimacs_text.proofs.SoundLemmas.{sized, sound_mark}
use Rattle.dimacs_text.proofs.TakeLemmas as law
use Rattle.dimacs_text.proofs.draft.Draft.take_first_mark.Goals as goal

pub overflow_sub-node : goal.overflow_sub-node
overflow_sub-node c =
    let said = c.in_ok-mark.ensures in
    let read = read_mark-ok c.args.self.now said.fields c.in_ok-mark.mark said.is_read in
    rw c.node.ensures read.read.lawful.node.0

pub index_mut-requires : goal.index_mut-requires
index_mut-requires c =
    let said = c.in_ok-mark.ensures in
    let read = read_mark-ok c.args.self.now said.fields c.in_ok-mark.mark said.is_read in
    let size_is : c.self.inside.size ≡ Some read.size = ap (λ (t : Parsed). t.size) c.self.view_is ∙ read.size_is in
    let before = sized _ read.size _ _ _ size_is c.self.invariant in
    omega (arith, c.node.ensures, read.read.lawful.node.0, read.read.lawful.node.1, before.flagged.len, c.self.inside.named.ok)

pub invariant_of-self : goal.invariant_of-self
invariant_of-self c =
    let said = c.in_ok-mark.ensures in
    let read = read_mark-ok c.args.self.now said.fields c.in_ok-mark.mark said.is_read in
    let size_is : c.self.inside.size ≡ Some read.size = ap (λ (t : Parsed). t.size) c.self.view_is ∙ read.size_is in
    let fresh = ap (λ (t : Parsed). is_named (node_of c.in_ok-mark.mark) t.marks) c.self.view_is ∙ read.read.fresh in
    let no_rows = ap (λ (t : Parsed). t.rows) c.self.view_is ∙ read.no_rows in
    let fits : MarksFit read.size.kind c.self.inside.marks.items → MarksFit read.size.kind (c.self.inside.marks.items ++ c.in_ok-mark.mark ∷ []) = rw (ap (λ (t : Parsed). t.marks) c.self.view_is) read.read.fits in
    rw (c.push_reserved.ensures.items, c.node.ensures) (sound_mark _ read.size _ _ _ c.in_ok-mark.mark size_is c.self.invariant no_rows read.read.lawful fits fresh)

pub returns : goal.returns
returns c =
    let said = c.in_ok-mark.ensures in
    let read = read_mark-ok c.args.self.now said.fields c.in_ok-mark.mark said.is_read in
    let size_is : c.self.inside.size ≡ Some read.size = ap (λ (t : Parsed). t.size) c.self.view_is ∙ read.size_is in
    law.first_mark_taken c.args.self.now _ c.args.text.now c.in_ok-mark.used c.requires.some c.if-used-gt-LINE_LIMIT.false c.in_ok-mark.mark c.requires.letter said
    (rw (← c.self.view_is, c.push_reserved.ensures.items, new_marks_are c.self.inside.size read.size said.fields c.in_ok-mark.mark size_is read.read.mark_is) refl)
