use Rattle.table.proofs.row.Figures.in_limits.Goals as goal
use Rattle.table.specs.Limits.{in_limits}

pub returns : goal.returns
unfolding in_limits
returns c = record { answer = rw (c.are_small.ensures, c.are_small-2.ensures) }
