use Rattle.table.proofs.row.Figures.suits.Goals as goal
use Rattle.table.specs.Limits.{suits}

pub returns : goal.returns
unfolding suits
returns c = record { answer = rw (c.in_limits.ensures.answer, c.are_had.ensures, c.are_had-2.ensures) }
