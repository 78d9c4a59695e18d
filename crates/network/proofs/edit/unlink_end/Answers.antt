use Rattle.std.proofs.Common.{◌∙◌, ◌-◌, ap}
use Rattle.std.proofs.lemmas.List.{map-set, map_push}
use Rattle.network.specs.Representation.{ends_in, listed_end}
use Rattle.network.proofs.edit.unlink_end.Goals as goal

pub returns-clause-removed : goal.returns-clause-removed
returns-clause-removed c = record {
  before = listed_end c.in-Some.before;
  tails = ap ends_in c.in-Some.ensures.items ∙ map_push listed_end c.pop.new.self.items c.in-Some.before;
  heads = map-set listed_end c.args.first.now (c.args.node - 1) c.in-Some.before;
}
