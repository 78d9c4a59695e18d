-- Complementary slackness: of a flow within its bounds, each arc follows the sign of its reduced cost where no residual arc has a reduced cost below 0, and the other way round
-- (Ahuja, Magnanti, Orlin, "Network Flows": complementary slackness optimality conditions).
use Rattle.std.proofs.Common.{ℕ, ◌<◌, ℤ, pos, ◌+ℤ◌, ◌<ℤ◌, ◌≤ℤ◌, List, arith}
use Rattle.std.specs.List.{AllZip}
use Rattle.std.proofs.lemmas.Int.{ints, by_lt_z}
use Rattle.std.proofs.lemmas.Slice.Zip.{AllZip-long}
use Rattle.dimacs_text.specs.declared.problem.ArcRow.{ArcRow}
use Rattle.network.specs.Flow.{AllWithinBounds, FollowsSign, IsWithinBounds, reduced_cost}
use Rattle.network.proofs.Places.{zip_at, zip_from}
use Rattle.residual_graph.specs.declared.residual.Way.{Way}
use Rattle.residual_graph.specs.declared.residual.Way.TheVariants.{Forward, Backward}
use Rattle.residual_graph.specs.Residual.{NoneBelowBy, cost_of, end_of, number_at, room_of, row_at, start_of}

module _ (q : ℕ → ℤ) where
  -- the residual arc in this way along an arc, where it is there, has no reduced cost below 0
  abbrev NotBelow : ArcRow → ℤ → Way → Type 0
  NotBelow a x way = pos 0 <ℤ room_of a x way → q (end_of a way) ≤ℤ (cost_of a way +ℤ q (start_of a way))

  sign_of : (a : ArcRow) (x : ℤ) → IsWithinBounds a x → ((way : Way) → NotBelow a x way) → FollowsSign q a x
  sign_of a x within none = record {
    dear = λ dear. by_lt_z a.low x (λ above. absurd (omega (arith, ints, dear, none Backward (omega (arith, ints, above))))) (λ at. omega (arith, ints, at, within.0));
    cheap = λ cheap. by_lt_z x a.cap (λ below. absurd (omega (arith, ints, cheap, none Forward (omega (arith, ints, below))))) (λ at. omega (arith, ints, at, within.1));
  }

  not_below : (a : ArcRow) (x : ℤ) (way : Way) → FollowsSign q a x → NotBelow a x way
  not_below a x Forward sign room = by_lt_z (reduced_cost q a) (pos 0) (λ cheap. absurd (omega (arith, ints, room, sign.cheap cheap))) (λ rest. omega (arith, ints, rest))
  not_below a x Backward sign room = by_lt_z (pos 0) (reduced_cost q a) (λ dear. absurd (omega (arith, ints, room, sign.dear dear))) (λ rest. omega (arith, ints, rest))

  pub signs_of : (arcs : List ArcRow) (x : List ℤ) → AllWithinBounds arcs x → NoneBelowBy arcs x q → AllZip (FollowsSign q) arcs x
  signs_of arcs x bounds none =
      zip_from (FollowsSign q) _ (pos 0) arcs x (AllZip-long IsWithinBounds arcs x bounds)
      (λ k lt. sign_of (row_at arcs k) (number_at x k) (zip_at IsWithinBounds _ (pos 0) arcs x bounds k lt) (λ way room. none k way (record { is_arc = lt; has_room = room })))

  pub none_below_of : (arcs : List ArcRow) (x : List ℤ) → AllZip (FollowsSign q) arcs x → NoneBelowBy arcs x q
  none_below_of arcs x signs k way residual = not_below (row_at arcs k) (number_at x k) way (zip_at (FollowsSign q) _ (pos 0) arcs x signs k residual.is_arc) residual.has_room
