-- What the rows of a sheet keep, whatever calls are made: they are tasks of the board in limits, or empty.
use Rattle.std.specs.Prelude.{◌≡◌, ℕ, ◌<◌, ◌≤◌, true, false, List}
use Rattle.table.specs.Limits.{suits}
use Rattle.table.specs.Rows.{capacity, empty_row, row_at}
use Rattle.table.specs.declared.board.Board.{Board}
use Rattle.table.specs.declared.row.Row.{Row}

-- a row with a core of the board, a rank from 1 to 64 and figures in every limit
pub record LawfulRow (board : Board) (row : Row) : Type 0 where
  pub core_below : row.core < board.cores
  pub rank_from : 1 ≤ row.rank
  pub rank_to : row.rank ≤ 64
  pub limits : suits board row.figures ≡ true

-- every used row is lawful, no two of a core share a rank, and every other row is the empty row
pub record WellFormed (board : Board) (rows : List Row) : Type 0 where
  pub lawful : (i : ℕ) → i < 64 → (row_at rows i).used ≡ true → LawfulRow board (row_at rows i)
  pub apart : (i j : ℕ) → i < 64 → j < 64 → (row_at rows i).used ≡ true → (row_at rows j).used ≡ true → (row_at rows i).core ≡ (row_at rows j).core → (row_at rows i).rank ≡ (row_at rows j).rank → i ≡ j
  pub empty : (i : ℕ) → i < capacity rows → (row_at rows i).used ≡ false → row_at rows i ≡ empty_row
