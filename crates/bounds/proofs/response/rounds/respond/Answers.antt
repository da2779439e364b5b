use Rattle.bounds.proofs.Ended.{response_answer, response_means}
use Rattle.bounds.proofs.response.rounds.respond.Goals as goal
use Rattle.bounds.specs.Rounds.{response}
use Rattle.std.proofs.Common.{◌≡◌, Some, sym, ap, ◌∙◌}

pub returns : goal.returns
returns c =
    let board = c.args.board.now in
    let rows = c.args.rows.now in
    let enough : response board rows ≡ Some c.run.result = ap (λ b. response b rows) (sym c.of-table.ensures.board) ∙ c.run.ensures in
    let means = response_means board rows c.run.result enough in
    record { answer = response_answer board rows c.run.result enough; enough = enough; ends = means.ends; least = means.least }
