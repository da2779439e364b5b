use Rattle.bounds.specs.Tested.{composable_least}
use Rattle.bounds.proofs.composable.ComposableTest.bound.Goals as goal
use Rattle.bounds.specs.Bounds.{composable_bound}
use Rattle.table.specs.Sets.{Set, members}
use Rattle.std.proofs.Common.{◌≡◌, ap, ◌∙◌}

pub returns : goal.returns
returns c =
    let set : Set = members c.args.above.now in
    let answer : c.ask.result ≡ composable_bound c.args.board.now c.args.rows.now c.args.number set =
    c.ask.ensures.answer ∙ ap (λ f. f c.args.number set) c.prepare-prepared.ensures.answer in
    record { answer = answer; least = composable_least c.args.board.now c.args.rows.now c.args.number set c.ask.result answer }
