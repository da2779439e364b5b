use Rattle.naive.proofs.recurrence.holds_task.Goals as goal
use Rattle.table.specs.Limits.{in_limits}

pub returns : goal.returns
unfolding in_limits
returns c = rw (c.is_small.ensures, c.is_small-2.ensures, c.are_small.ensures, c.are_small-2.ensures)
