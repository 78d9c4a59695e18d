use Rattle.command_line.proofs.commands.program.Goals as goal

pub returns : goal.returns
returns c =
    let solve = c.solve_command.ensures in
    let session = c.session_command.ensures in
    let check = c.check_command.ensures in
    let one = c.in_ok-program.ensures _ _ c.bare_program.ensures.app solve.app solve.local in
    let two = c.in_ok-program-2.ensures _ _ one session.app session.local in
    record { app = c.with_command-3.ensures _ _ two check.app check.local }
