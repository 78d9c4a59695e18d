use Rattle.std.proofs.Common.{◌≡◌, ◌+ℤ◌, ◌-ℤ◌, arith, rules, w64, to_z, of_z, SFits}
use Rattle.std.proofs.lemmas.Int.{ints, to_z-of_z}
use Rattle.residual_graph.specs.Residual.{number_at}
use Rattle.flow_changes.proofs.ExchangeLemmas.{led_on, transfer_put}
use Rattle.flow_changes.proofs.exchange.move_excess.Goals as goal

pub returns-clause-led : goal.returns-clause-led
returns-clause-led c = led_on c.write.ensures.led c.write-2.ensures.led

pub returns-clause-moved : goal.returns-clause-moved
returns-clause-moved c = λ yes.
    (let e = c.args.excess.now in
    let f = c.write.new.table in
    let u = c.args.row.now.tail in
    let w = c.args.row.now.head in
    let a = to_z w64 (of_z w64 c.in-Some.left) in
    let b = to_z w64 (of_z w64 c.in-Some-checked_add.come) in
    let fits_left : SFits w64 c.in-Some.left = search rules in
    let fits_come : SFits w64 c.in-Some-checked_add.come = search rules in
    let fits_u : SFits w64 (number_at e u) = search rules in
    let fits_w : SFits w64 (number_at f w) = search rules in
    let left_is = to_z-of_z w64 c.in-Some.left fits_left in
    let come_is = to_z-of_z w64 c.in-Some-checked_add.come fits_come in
    let took : a ≡ number_at e u -ℤ c.args.amount = omega (arith, ints, left_is, to_z-of_z w64 (number_at e u) fits_u, to_z-of_z w64 c.args.amount c.ranges.amount, c.in-Some.ensures.1) in
    let came : b ≡ number_at f w +ℤ c.args.amount = omega (arith, ints, come_is, to_z-of_z w64 (number_at f w) fits_w, to_z-of_z w64 c.args.amount c.ranges.amount, c.in-Some-checked_add.ensures.1) in
    transfer_put u w c.args.amount e f c.write-2.new.table a b c.requires.row.tail_in c.requires.row.head_in c.write.ensures.table took c.write-2.ensures.table came)
