use Rattle.bounds.proofs.Answered.{answered}
use Rattle.bounds.proofs.Meets.{lesser_meets}
use Rattle.bounds.specs.Rises.{lesser_rising}
use Rattle.bounds.proofs.prepared.RivalTable.ask.Goals as goal
use Rattle.bounds.specs.Bounds.{ahead_bound}
use Rattle.bounds.specs.Lengths.{length_of}
use Rattle.bounds.specs.Questions.{lesser_side}
use Rattle.bounds.specs.Rules.{lesser_rule}
use Rattle.shortlist.specs.Items.{items}
use Rattle.std.proofs.lemmas.Bool.{cond-false}
use Rattle.table.specs.Sets.{members}
use Rattle.table.specs.Tasks.{listed}
use Rattle.std.proofs.Common.{sym, ◌∙◌}

pub returns : goal.returns
unfolding ahead_bound
returns c =
    let self = c.args.self.now in
    let board = self.table.board in
    let rows = listed self.table.tasks in
    let set = members c.args.above.now in
    let ahead = length_of self.ahead.of in
    let asks = c.in_ok-own.ensures in
    answered (lesser_rule ahead) board rows c.args.number set c.in_ok-own.own (lesser_side board c.in_ok-own.own (items self.rivals)) c.climb.result asks (lesser_meets board rows c.args.number set ahead c.in_ok-own.own (items self.rivals) asks self.gathered) (lesser_rising board rows c.args.number set ahead asks.found) c.climb.ensures.answer

pub returns-in_err-own : goal.returns-in_err-own
unfolding ahead_bound
returns-in_err-own c = c.from_residual.ensures ∙ sym (cond-false _ _ _ c.in_err-own.ensures)
