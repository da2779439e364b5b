-- What is told of a table: its tasks, one after the other, and then all response times together.
use Rattle.bounds.specs.Rounds.{settled}
use Rattle.std.specs.Prelude.{ℕ, cond, List, [], ◌++◌, Some, None, Option, codes}
use Rattle.table.specs.Rows.{is_task, row_at}
use Rattle.table.specs.Tasks.{slot}
use Rattle.table.specs.declared.board.Board.{Board}
use Rattle.table.specs.declared.row.Row.{Row}
use Rattle.table.specs.declared.task.Task.{Task}
use Rattle.table.specs.declared.tasks.Tasks.{Tasks}
use Rattle.tablefile.specs.Parts.{laid}
use Rattle.telling.specs.Tasks.{task_text}
use Rattle.telling.specs.Times.{settled_text}

-- a number's task, with an empty line after it, or nothing
unfoldable pub slot_text : Board → List Row → ℕ → Option Task → List ℕ
slot_text board rows k None = []
slot_text board rows k (Some task) = task_text board rows k task.core task.figures ++ codes "\n\n"

-- the same from the tasks by number
abbrev pub slot_at : Board → List Row → Tasks → ℕ → List ℕ
slot_at board rows tasks k = slot_text board rows k (slot tasks k)

-- the tasks, by rising number
unfoldable pub slots_text : Board → List Row → Tasks → List ℕ
slots_text board rows tasks = laid 64 (slot_at board rows tasks)

-- the same by the rows: what is told of a number that has a task
unfoldable pub number_text : Board → List Row → ℕ → List ℕ
number_text board rows k =
    cond (is_task rows k) (task_text board rows k (row_at rows k).core (row_at rows k).figures ++ codes "\n\n") []

-- the tasks of a row list, by rising number, and then all response times under the present ranks
unfoldable pub tasks_text : Board → List Row → List ℕ
tasks_text board rows = laid 64 (number_text board rows) ++ settled_text (is_task rows) (settled board rows)
