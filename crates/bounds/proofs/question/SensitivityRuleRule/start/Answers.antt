use Rattle.std.proofs.Common.{◌-◌, ◌*◌}
use Rattle.bounds.proofs.Valued.{no_solution_below}
use Rattle.bounds.proofs.question.SensitivityRuleRule.start.Goals as goal
use Rattle.bounds.specs.Questions.{own_shared}
use Rattle.bounds.specs.Sums.{sum_to}

pub returns : goal.returns
returns c =
    let q = c.args.self.now in
    no_solution_below q.own.now (λ t. (q.board.now.cores - 1) * sum_to q.board.now.resources (λ r. own_shared q.own.now r t)) c.start.result c.start.ensures
