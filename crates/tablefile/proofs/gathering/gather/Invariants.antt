use Rattle.std.proofs.Common.{◌≡◌}
use Rattle.tablefile.proofs.gathering.gather.Given as goal
use Rattle.tablefile.specs.Numbers.{tasks_below}

abbrev pub invariant-loop-number : goal.invariant-loop-number
invariant-loop-number l = l.found.items ≡ tasks_below l.rows l.number
