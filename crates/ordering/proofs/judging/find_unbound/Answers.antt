use Rattle.ordering.proofs.Failing.{judged}
use Rattle.ordering.proofs.judging.find_unbound.Goals as goal
use Rattle.ordering.specs.Judging.{unbound}
use Rattle.ordering.specs.Orders.{Answers}
use Rattle.table.specs.Rows.{on_core}
use Rattle.std.proofs.Common.{◌≡◌}

pub returns : goal.returns
returns g c =
    let rows = c.args.rows.now in
    let ask : Answers = g.T.Test.meaning c.args.test.now c.args.board.now rows in
    let answer : c.highest_failing.result ≡ unbound ask rows (on_core rows c.args.core) =
    let test = c.new-asking.ensures.test in
    let board = c.new-asking.ensures.board in
    let asked = c.new-asking.ensures.rows in
    let tasks = c.of_core.ensures.answer in
    let told = c.highest_failing.ensures in
    cc in
    record { answer = answer; judges = judged ask rows c.args.core _ answer }
