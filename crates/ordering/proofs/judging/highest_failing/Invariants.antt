use Rattle.ordering.proofs.judging.highest_failing.Given as goal
use Rattle.ordering.specs.Judging.{unbound_below}
use Rattle.table.specs.Sets.{members}
use Rattle.std.proofs.Common.{◌≡◌}

-- of the tasks below a number that fail, the one of highest rank is found
abbrev pub invariant-loop-number : goal.invariant-loop-number
invariant-loop-number g l = l.found ≡ unbound_below (g.T.Test.meaning l.asking.test.now l.asking.board l.asking.rows.now) l.asking.rows.now (members l.tasks) l.number
