use Rattle.std.proofs.Common.{◌≤◌, length, arith, rules, tests}
use Rattle.std.proofs.lemmas.Bool.Decides.{nat_tests}
use Rattle.std.proofs.lemmas.Iterator.{YieldsList-from_slice}
use Rattle.std.proofs.lemmas.Iterator.Search.{all_from_yields_List}
use Rattle.dimacs_lines.specs.Name.{is_letter}
use Rattle.dimacs_lines.proofs.NameLemmas.{name_by_letters}
use Rattle.dimacs_lines.proofs.name.is_name.Goals as goal

pub returns : goal.returns
returns c =
    let word = c.args.word.now in
    let found = all_from_yields_List is_letter _ _ _ c.all.ensures.ran (YieldsList-from_slice word cc) (λ x b q k. search (rules, tests)) in
    let some : 1 ≤ length word = grind (arith, nat_tests, c.is_empty.ensures, c.if-is_empty.false) in
    name_by_letters word c.all.result some c.if-word-gt-NAME_LIMIT.false found

pub returns-then-is_empty : goal.returns-then-is_empty
returns-then-is_empty c = search rules
