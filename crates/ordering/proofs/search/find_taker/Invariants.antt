use Rattle.std.proofs.Common.{◌≡◌, ◌≤◌, None}
use Rattle.ordering.proofs.search.find_taker.Given as goal
use Rattle.ordering.specs.Search.{can_take}
use Rattle.table.specs.Firsts.{first_that}
use Rattle.table.specs.Sets.{count_below, members}

-- no task below k can take the place, and each of them was tried
abbrev pub invariant-loop-k : goal.invariant-loop-k
invariant-loop-k g l =
    (first_that (can_take (g.T.Test.meaning l.asking.test.now l.asking.board l.asking.rows.now) (members l.tasks)) l.k ≡ None)
    × (l.trials ≡ count_below (members l.tasks) l.k)
    × (l.trials ≤ l.k)
