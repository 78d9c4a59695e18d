use Rattle.std.proofs.Common.{◌≡◌, ap, ◌∙◌, codes, map, string_bytes, Global, rules}
use Rattle.std.proofs.lemmas.Result.{err_from_is_err_and}
use Rattle.clap.specs.Words.{found_of, is_simple, rows_of}
use Rattle.command_line.proofs.MatchLemmas.{none_used, program_is_simple, used_in}
use Rattle.command_line.proofs.TakenLemmas.{check_has_files, none_is_no_command, other_is_no_command, session_has_problem}
use Rattle.command_line.proofs.RefusalLemmas.{refused_by_clap, session_named, session_refused, taken_by, taken_if_ok}
use Rattle.command_line.proofs.parse.task.Goals as goal

pub returns-in_err-matches-clause-refused : goal.returns-in_err-matches-clause-refused
returns-in_err-matches-clause-refused c =
    let p = err_from_is_err_and c.from_residual-in_err-matches.result c.from_residual-in_err-matches.ensures.1 in
    rw (p.1, p.2) (refused_by_clap _ (map (string_bytes {Z = Global}) c.args.words.now) c.in_err-matches.field-0.0 c.in_ok-program.ensures.app c.in_err-matches.ensures.kinds c.in_err-matches.ensures.passes)

pub unreachable-requires : goal.unreachable-requires
unreachable-requires c =
    let app = c.in_ok-program.ensures.app in
    let whole = c.in_ok-matches.ensures.matches (ap is_simple app ∙ program_is_simple) in
    let taken = taken_by _ (map (string_bytes {Z = Global}) c.args.words.now) app c.in_ok-matches.ensures.kinds in
    none_is_no_command (map (string_bytes {Z = Global}) c.args.words.now) taken (none_used _ (map (string_bytes {Z = Global}) c.args.words.now) _ app whole.1 c.in_default.ensures.rows)

pub unreachable-requires-in_default-name : goal.unreachable-requires-in_default-name
unreachable-requires-in_default-name c =
    let app = c.in_ok-program.ensures.app in
    let whole = c.in_ok-matches.ensures.matches (ap is_simple app ∙ program_is_simple) in
    let taken = taken_by _ (map (string_bytes {Z = Global}) c.args.words.now) app c.in_ok-matches.ensures.kinds in
    let is = used_in _ (map (string_bytes {Z = Global}) c.args.words.now) _ _ c.in-Some.name.now (rows_of (found_of c.in-Some.found.now)) app whole.1 c.in-Some.ensures.name c.in-Some.ensures.rows (search rules) in
    other_is_no_command (map (string_bytes {Z = Global}) c.args.words.now) (rows_of (found_of c.in-Some.found.now)) taken c.in-Some.name.now is (search rules) (search rules) (search rules)

pub returns-in-solve-clause-named : goal.returns-in-solve-clause-named
returns-in-solve-clause-named c =
    let app = c.in_ok-program.ensures.app in
    let whole = c.in_ok-matches.ensures.matches (ap is_simple app ∙ program_is_simple) in
    let named : c.in-Some.name.now ≡ codes "solve" = search rules in
    let is = used_in _ (map (string_bytes {Z = Global}) c.args.words.now) _ _ (codes "solve") (rows_of (found_of c.in-Some.found.now)) app whole.1 c.in-Some.ensures.name c.in-Some.ensures.rows named in
    rw is c.solve_task.ensures

pub returns-in-solve-clause-taken : goal.returns-in-solve-clause-taken
returns-in-solve-clause-taken c = taken_by _ (map (string_bytes {Z = Global}) c.args.words.now) c.in_ok-program.ensures.app c.in_ok-matches.ensures.kinds

pub session_task-requires : goal.session_task-requires
session_task-requires c =
    let app = c.in_ok-program.ensures.app in
    let whole = c.in_ok-matches.ensures.matches (ap is_simple app ∙ program_is_simple) in
    let taken = taken_by _ (map (string_bytes {Z = Global}) c.args.words.now) app c.in_ok-matches.ensures.kinds in
    let named : c.in-Some.name.now ≡ codes "session" = search rules in
    let is = used_in _ (map (string_bytes {Z = Global}) c.args.words.now) _ _ (codes "session") (rows_of (found_of c.in-Some.found.now)) app whole.1 c.in-Some.ensures.name c.in-Some.ensures.rows named in
    session_has_problem (map (string_bytes {Z = Global}) c.args.words.now) (rows_of (found_of c.in-Some.found.now)) taken is

pub returns-in-session : goal.returns-in-session
returns-in-session c =
    let app = c.in_ok-program.ensures.app in
    let whole = c.in_ok-matches.ensures.matches (ap is_simple app ∙ program_is_simple) in
    let taken = taken_by _ (map (string_bytes {Z = Global}) c.args.words.now) app c.in_ok-matches.ensures.kinds in
    let named : c.in-Some.name.now ≡ codes "session" = search rules in
    let is = used_in _ (map (string_bytes {Z = Global}) c.args.words.now) _ _ (codes "session") (rows_of (found_of c.in-Some.found.now)) app whole.1 c.in-Some.ensures.name c.in-Some.ensures.rows named in
    record {
      named = session_named (map (string_bytes {Z = Global}) c.args.words.now) (rows_of (found_of c.in-Some.found.now)) is c.session_task.result c.session_task.ensures;
      taken = taken_if_ok (map (string_bytes {Z = Global}) c.args.words.now) c.session_task.result taken;
      refused = session_refused (map (string_bytes {Z = Global}) c.args.words.now) (rows_of (found_of c.in-Some.found.now)) is c.session_task.result taken c.session_task.ensures;
    }

pub check_task-requires : goal.check_task-requires
check_task-requires c =
    let app = c.in_ok-program.ensures.app in
    let whole = c.in_ok-matches.ensures.matches (ap is_simple app ∙ program_is_simple) in
    let taken = taken_by _ (map (string_bytes {Z = Global}) c.args.words.now) app c.in_ok-matches.ensures.kinds in
    let named : c.in-Some.name.now ≡ codes "check" = search rules in
    let is = used_in _ (map (string_bytes {Z = Global}) c.args.words.now) _ _ (codes "check") (rows_of (found_of c.in-Some.found.now)) app whole.1 c.in-Some.ensures.name c.in-Some.ensures.rows named in
    let files = check_has_files (map (string_bytes {Z = Global}) c.args.words.now) (rows_of (found_of c.in-Some.found.now)) taken is in
    record { problem = files.0; answer = files.1 }

pub returns-in-check-clause-named : goal.returns-in-check-clause-named
returns-in-check-clause-named c =
    let app = c.in_ok-program.ensures.app in
    let whole = c.in_ok-matches.ensures.matches (ap is_simple app ∙ program_is_simple) in
    let named : c.in-Some.name.now ≡ codes "check" = search rules in
    let is = used_in _ (map (string_bytes {Z = Global}) c.args.words.now) _ _ (codes "check") (rows_of (found_of c.in-Some.found.now)) app whole.1 c.in-Some.ensures.name c.in-Some.ensures.rows named in
    rw is c.check_task.ensures

pub returns-in-check-clause-taken : goal.returns-in-check-clause-taken
returns-in-check-clause-taken c = taken_by _ (map (string_bytes {Z = Global}) c.args.words.now) c.in_ok-program.ensures.app c.in_ok-matches.ensures.kinds
