use Rattle.std.proofs.Common.{◌≡◌, ◌≤◌}
use Rattle.table.proofs.set.TaskSet.size.Given as goal
use Rattle.table.specs.Sets.{count_below, members}

-- the members below k are counted
abbrev pub invariant-loop-k : goal.invariant-loop-k
invariant-loop-k l = (l.n ≡ count_below (members l.self) l.k) × (l.n ≤ l.k)
