use Rattle.std.proofs.Common.{refl, ◌∙◌, codes}
use Rattle.clap.specs.Words.{found_of, rows_of}
use Rattle.clap.proofs.WalkLemmas.{first_value-rows, one_text-rows}
use Rattle.command_line.proofs.MatchLemmas.{flag_is}
use Rattle.command_line.proofs.parse.solve_task.Goals as goal

pub returns : goal.returns
returns c =
    let found = found_of c.args.found.now in
    let said = one_text-rows found (codes "proof") in (
      rows_of found,
      refl,
      flag_is _ _ c.get_one.result c.unwrap_or.result (λ text r h. h)
          (λ e. c.get_one.ensures.none (said ∙ e))
          (λ text e. c.get_one.ensures.value text (said ∙ e)) c.unwrap_or.ensures,
      c.get_str.ensures ∙ first_value-rows found (codes "file"),
    )
