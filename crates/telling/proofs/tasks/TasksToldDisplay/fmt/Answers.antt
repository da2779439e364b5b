use Rattle.std.proofs.Output.{has_written_of_eq}
use Rattle.telling.proofs.Slotted.{tasks_told}
use Rattle.telling.proofs.tasks.TasksToldDisplay.fmt.Goals as goal

pub returns-clause-writes : goal.returns-clause-writes
returns-clause-writes g c = λ plain ok.
    let told = c.args.self.now in
    has_written_of_eq _ _ _ _ _ (tasks_told told.rows.now c.of-tasks.result c.of-tasks.ensures.answer told.board.now) (c.write.ensures.writes plain ok)
