use Rattle.std.proofs.Common.{◌-◌, pos, arith, rules}
use Rattle.network.proofs.signs.follows_sign.Goals as goal

pub reduced_by-cost-requires-clause-range : goal.reduced_by-cost-requires-clause-range
reduced_by-cost-requires-clause-range c v node = c.requires.range (v - 1) (pos 0) (omega (arith, node.0, node.1))

pub returns-then-cost-lt0 : goal.returns-then-cost-lt0
returns-then-cost-lt0 c = search rules
