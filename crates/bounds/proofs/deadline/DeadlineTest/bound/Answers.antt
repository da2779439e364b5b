use Rattle.bounds.specs.Tested.{deadline_least}
use Rattle.bounds.proofs.deadline.DeadlineTest.bound.Goals as goal
use Rattle.bounds.specs.Bounds.{deadline_bound}
use Rattle.table.specs.Sets.{Set, members}
use Rattle.std.proofs.Common.{◌≡◌, ap, ◌∙◌}

pub returns : goal.returns
returns c =
    let set : Set = members c.args.above.now in
    let answer : c.ask.result ≡ deadline_bound c.args.board.now c.args.rows.now c.args.number set =
    c.ask.ensures.answer ∙ ap (λ f. f c.args.number set) c.prepare-prepared.ensures.answer in
    record { answer = answer; least = deadline_least c.args.board.now c.args.rows.now c.args.number set c.ask.result answer }
