use Rattle.std.proofs.Common.{◌≤◌, length}
use Rattle.bounds.proofs.gathering.gather.Given as goal
use Rattle.bounds.specs.Gathering.{Gathers}
use Rattle.shortlist.specs.Items.{items}

-- the picked numbers before it are gathered
abbrev pub invariant-loop-number : goal.invariant-loop-number
invariant-loop-number g l = (length (items l.loads) ≤ l.number) × Gathers (g.P.Pick.picks l.picker) (g.P.Pick.forms l.picker) l.number (items l.loads)
