use Rattle.ordering.proofs.Reranks.{orders}
use Rattle.ordering.proofs.writing.order_core.Goals as goal
use Rattle.ordering.specs.Search.{ordered}
use Rattle.ordering.specs.Told.{numbers_of}

pub returns : goal.returns
returns g c =
    let found = c.in_ok-found.ensures in
    record {
      answer = found.answer;
      trials = found.trials;
      rows = c.write_ranks.ensures.rows;
      orders = orders _ _ (g.met.T.Test.laws c.args.test.now) c.args.board.now c.args.rows.now c.args.core (ordered (numbers_of c.in_ok-found.found.order) c.in_ok-found.found.trials) c.write_ranks.new.rows found.decides c.write_ranks.ensures.rows;
    }
