-- The report of a sheet for a test: the board, then each core, then each task by rising number.
use Rattle.std.specs.Prelude.{ℕ, cond, List, [], ◌++◌}
use Rattle.report.specs.Lines.{core_line, head_line, task_line}
use Rattle.sheet.specs.Marks.{marked}
use Rattle.sheet.specs.Passing.{asked}
use Rattle.sheet.specs.State.{State}
use Rattle.sheet.specs.declared.marks.Mark.{Mark}
use Rattle.ordering.specs.Orders.{Answers}
use Rattle.table.specs.Ranks.{higher_ranked}
use Rattle.table.specs.Rows.{is_task, row_at}
use Rattle.table.specs.Tests.{Meaning}
use Rattle.table.specs.declared.row.Row.{Row}
use Rattle.tablefile.specs.Parts.{laid}

-- the line of a core
abbrev pub line_of_core : List Mark → ℕ → List ℕ
line_of_core marks k = core_line k (marked marks k)

-- the line of a number that has a task, with its bound under the present ranks
abbrev pub line_of_number : Answers → List Row → ℕ → List ℕ
line_of_number ask rows n = cond (is_task rows n) (task_line n (row_at rows n) (ask n (higher_ranked rows n))) []

-- the report
unfoldable pub report_text : Meaning → State → List ℕ
report_text m s = head_line s.board ++ (laid s.board.cores (line_of_core s.marks) ++ laid 64 (line_of_number (asked m s) s.rows))
