use Rattle.std.proofs.Common.{◌≡◌, ◌<◌, ◌∙◌, length, true, false, arith, sym, subst, List, ℕ}
use Rattle.std.specs.Prelude.{slice_set}
use Rattle.std.proofs.lemmas.List.{length-set, get_or_read}
use Rattle.tracked.specs.Marks.{in_set, IsListOf}
use Rattle.tracked.proofs.MarkLemmas.{IsListOf-put}
use Rattle.tracked.proofs.touched.Touched.note.Goals as goal

pub invariant_of-self : goal.invariant_of-self
invariant_of-self c =
    let s = c.self.inside in
    let there : c.args.place < length s.marks.items = rw c.self.view_is c.requires.place in
    let out : in_set s.marks.items c.args.place ≡ false = sym (get_or_read s.marks.items c.args.place c.index.result.now there c.index.ensures false) ∙ c.if-index.false in
    let size = length-set s.marks.items c.args.place true in (
      subst (λ (places : List ℕ). IsListOf (slice_set s.marks.items c.args.place true) places) (sym c.push_reserved.ensures.items) (IsListOf-put s.marks.items s.places.items c.args.place c.self.invariant.0 there out),
      omega (arith, c.self.invariant.1, size),
      omega (arith, c.self.invariant.2, size, c.push_reserved.ensures.capacity),
    )
