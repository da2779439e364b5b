use Rattle.std.proofs.Common.{◌+◌, ◌-◌, ◌≤◌}
use Rattle.least.proofs.climb.Given as goal
use Rattle.least.specs.Least.{NoSolutionBelow, Rising}

-- no solution of a rising rule lies below t
abbrev pub invariant-loop-t : goal.invariant-loop-t
invariant-loop-t g l = let rule = g.R.Rule.value l.rule in (1 ≤ l.t) × (Rising rule → NoSolutionBelow rule l.t)

abbrev pub decreases-loop-t : goal.decreases-loop-t
decreases-loop-t g l = l.limit + 1 - l.t
