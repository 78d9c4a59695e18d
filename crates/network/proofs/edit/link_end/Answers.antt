use Rattle.std.proofs.Common.{◌∙◌, ◌-◌, ◌++◌, ◌∷◌, [], ℕ, Option, ap}
use Rattle.std.proofs.lemmas.List.{map_push}
use Rattle.network.specs.Representation.{ends_in, listed_end}
use Rattle.network.proofs.Rows.{ends_set, entry_is}
use Rattle.network.proofs.edit.link_end.Goals as goal

pub returns-clause-added : goal.returns-clause-added
returns-clause-added c =
    let first = c.args.first.now in
    let next = c.args.next.now.items in
    record {
      heads = ends_set first (c.args.node - 1) c.args.end;
      tails = ap ends_in c.in-Ok.ensures.items ∙ map_push listed_end next _ ∙ ap (λ (o : Option ℕ). ends_in next ++ o ∷ []) (entry_is first (c.args.node - 1));
    }
