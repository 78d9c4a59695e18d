use Rattle.std.proofs.Common.{sym, ap, ◌∙◌}
use Rattle.std.specs.Prelude.{option_map}
use Rattle.clap.specs.Words.{found_of}
use Rattle.clap.proofs.WalkLemmas.{first_value-rows}
use Rattle.command_line.proofs.MatchLemmas.{none_is_given}
use Rattle.command_line.proofs.parse.named_file.Goals as goal

pub unreachable-requires : goal.unreachable-requires
unreachable-requires c =
    none_is_given _ (sym (first_value-rows (found_of c.args.found.now) c.args.id.now) ∙ sym c.in_default.ensures) c.requires

pub returns : goal.returns
returns c =
    sym (first_value-rows (found_of c.args.found.now) c.args.id.now) ∙ (sym c.get_str.ensures ∙ ap (option_map (λ s. s.now)) c.in-Some.is)
