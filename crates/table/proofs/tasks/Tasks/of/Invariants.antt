use Rattle.std.proofs.Common.{◌≡◌, ℕ, ◌<◌, map, length, get_or}
use Rattle.table.proofs.tasks.Tasks.of.Given as goal
use Rattle.table.specs.Rows.{past, plain_row, row_at}
use Rattle.table.specs.Tasks.{row_of}

-- the places below k hold the tasks of those rows
abbrev pub invariant-loop-number : goal.invariant-loop-number
invariant-loop-number l =
    (length l.slot-items ≡ 64) × ((j : ℕ) → j < l.number → get_or (map row_of l.slot-items) j past ≡ plain_row (row_at l.fn.rows j))
