use Rattle.ordering.proofs.Lawful.{decided, tried_few}
use Rattle.ordering.proofs.search.find_order.Goals as goal
use Rattle.ordering.specs.Orders.{Answers}
use Rattle.ordering.specs.Search.{search_for}
use Rattle.ordering.specs.Told.{outcome_of}
use Rattle.table.specs.Rows.{on_core}
use Rattle.std.proofs.Common.{◌≡◌}

pub returns : goal.returns
returns g c =
    let board = c.args.board.now in
    let rows = c.args.rows.now in
    let ask : Answers = g.T.Test.meaning c.args.test.now board rows in
    let answer : outcome_of c.fill_places.result ≡ search_for ask (on_core rows c.args.core) =
    let test = c.new-asking.ensures.test in
    let same = c.new-asking.ensures.board in
    let asked = c.new-asking.ensures.rows in
    let tasks = c.of_core.ensures.answer in
    let told = c.fill_places.ensures in
    cc in
    record {
      answer = answer;
      decides = decided _ _ (g.met.T.Test.laws c.args.test.now) board rows c.args.core _ answer;
      trials = tried_few ask rows c.args.core _ answer;
    }
