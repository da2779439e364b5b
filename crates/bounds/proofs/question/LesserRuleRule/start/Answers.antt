use Rattle.std.proofs.Common.{min}
use Rattle.bounds.proofs.Valued.{no_solution_below}
use Rattle.bounds.proofs.question.LesserRuleRule.start.Goals as goal
use Rattle.bounds.specs.Questions.{inflicted, own_shared}
use Rattle.bounds.specs.Rules.{contention}
use Rattle.shortlist.specs.Items.{items}

pub returns : goal.returns
returns c =
    let q = c.args.self.now in
    no_solution_below q.own.now (λ t. contention q.board.now q.own.now.task.core (λ r y. min (inflicted (items q.rivals.now) r y t) (own_shared q.own.now r t))) c.start.result c.start.ensures
