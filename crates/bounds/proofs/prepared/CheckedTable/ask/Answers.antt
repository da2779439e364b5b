use Rattle.bounds.proofs.Answered.{answered}
use Rattle.bounds.proofs.Meets.{sensitivity_meets}
use Rattle.bounds.specs.Rises.{composable_rising}
use Rattle.bounds.proofs.prepared.CheckedTable.ask.Goals as goal
use Rattle.bounds.specs.Bounds.{composable_bound}
use Rattle.bounds.specs.Questions.{sensitivity_side}
use Rattle.bounds.specs.Rules.{composable_rule}
use Rattle.std.proofs.lemmas.Bool.{cond-false}
use Rattle.table.specs.Sets.{members}
use Rattle.table.specs.Tasks.{listed}
use Rattle.std.proofs.Common.{sym, ◌∙◌}

pub returns : goal.returns
unfolding composable_bound
returns c =
    let board = c.args.self.now.board in
    let rows = listed c.args.self.now.tasks in
    let set = members c.args.above.now in
    let asks = c.in_ok-own.ensures in
    answered composable_rule board rows c.args.number set c.in_ok-own.own (sensitivity_side board c.in_ok-own.own) c.climb.result asks (sensitivity_meets board rows c.args.number set c.in_ok-own.own asks) (composable_rising board rows c.args.number set asks.found) c.climb.ensures.answer

pub returns-in_err-own : goal.returns-in_err-own
unfolding composable_bound
returns-in_err-own c = c.from_residual.ensures ∙ sym (cond-false _ _ _ c.in_err-own.ensures)
