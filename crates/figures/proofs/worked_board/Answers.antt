use Rattle.figures.proofs.worked_board.Goals as goal
use Rattle.table.proofs.Boarded.{same_board}

pub returns : goal.returns
returns c = record { answer = same_board 2 1 _ _ _ _ _ _ }
