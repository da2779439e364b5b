use Rattle.bounds.proofs.Listed.{Filled}
use Rattle.bounds.proofs.response.Ranked.round.Given as goal
use Rattle.bounds.specs.Rounds.{bound_after}

-- every number below has a bound, and it is written
abbrev pub invariant-loop-number : goal.invariant-loop-number
invariant-loop-number l = Filled (bound_after l.self.table.board l.self.rows.now l.fn.before.of) l.number l.bound-items
