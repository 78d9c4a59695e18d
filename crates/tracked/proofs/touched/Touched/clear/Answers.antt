use Rattle.std.proofs.Common.{◌≤◌, length, arith, sym, subst, List, ℕ}
use Rattle.std.specs.Prelude.{vec_capacity}
use Rattle.tracked.specs.Marks.{IsListOf}
use Rattle.tracked.proofs.TouchedLemmas.{AreForgotten-all, IsListOf-none}
use Rattle.tracked.proofs.touched.Touched.clear.Goals as goal

pub invariant_of-self : goal.invariant_of-self
invariant_of-self c =
    let marks = c.loop-j.self-inside.marks.items in
    let places = c.loop-j.self-inside.places.items in
    let forgotten = c.loop-j.invariant.0 in
    let list : IsListOf c.self.inside.marks.items places = rw c.loop-j.invariant.1 c.self.invariant.0 in
    let all : length places ≤ c.loop-j.j = rw c.loop-j.invariant.1 (omega (arith, c.loop-j-test.false, c.len-j-end.ensures)) in
    let room : length c.self.inside.marks.items ≤ vec_capacity c.loop-j.self-inside.places = rw c.loop-j.invariant.1 c.self.invariant.2 in (
      subst (λ (xs : List ℕ). IsListOf marks xs) (sym c.clear.ensures.items) (IsListOf-none marks (AreForgotten-all _ places c.loop-j.j marks list all forgotten)),
      omega (arith, c.self.invariant.1, forgotten.same_size),
      omega (arith, room, forgotten.same_size, c.clear.ensures.capacity),
    )
