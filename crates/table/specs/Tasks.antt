-- The rows that tasks stand for: a task is its row without the rank, and no task an empty row.
use Rattle.std.specs.Prelude.{ℕ, true, cond, List, map, Some, None, Option, nat_lt, slice_index_or}
use Rattle.table.specs.Rows.{empty_row}
use Rattle.table.specs.declared.row.Row.{Row}
use Rattle.table.specs.declared.task.Task.{Task}
use Rattle.table.specs.declared.tasks.Tasks.{Tasks}

-- the row of a task, or of none
abbrev pub row_of : Option Task → Row
row_of None = empty_row
row_of (Some task) = record { used = true; core = task.core; rank = 1; figures = task.figures }

-- the task of a number, or none
abbrev pub slot : Tasks → ℕ → Option Task
slot tasks k = cond (nat_lt k 64) (slice_index_or tasks.slots k None) None

-- the rows of the tasks, by number
abbrev pub listed : Tasks → List Row
listed tasks = map row_of tasks.slots
