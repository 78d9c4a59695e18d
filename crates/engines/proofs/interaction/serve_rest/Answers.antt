use Rattle.std.proofs.Common.{◌∙◌}
use Rattle.engines.proofs.RunLemmas.{Answered-none, AnswersAll-served}
use Rattle.engines.proofs.interaction.serve_rest.Goals as goal

pub returns-then-begun-clause-rest : goal.returns-then-begun-clause-rest
returns-then-begun-clause-rest g c opening given before stands =
    let line = rw c.if-begun.true at (c.begun.ensures.text given stands.holds) in
    AnswersAll-served c.serve_line.result opening _ _ _ given before _ _ stands.answered (c.serve_line.ensures.served _ (c.line.ensures ∙ line) _ stands.gathers)

pub returns-else-begun-clause-rest : goal.returns-else-begun-clause-rest
returns-else-begun-clause-rest g c opening given before stands =
    let none = rw c.if-begun.false at (c.begun.ensures.text given stands.holds) in
    Answered-none opening _ given before _ none stands.answered
