use Rattle.std.proofs.Common.{◌≡◌, ◌-◌, to_z, of_z, arith}
use mir.Syntax.{w64}
use Rattle.std.proofs.lemmas.Int.{ints}
use Rattle.network.proofs.Growth.{sound_supply}
use Rattle.network.proofs.Network.set_supply.Goals as goal

pub invariant_of-self : goal.invariant_of-self
invariant_of-self c =
    let back : to_z w64 (of_z w64 c.args.value) ≡ c.args.value = omega (arith, ints, c.ranges.value) in
    let kind = rw (← c.self.view_is) at c.requires.kind in
    rw back (sound_supply _ _ _ _ _ _ _ _ _ (c.args.id - 1) c.args.value kind c.requires.limit c.self.invariant)
