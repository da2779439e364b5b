-- Saving a closed sheet: the file of its rows, which a fresh sheet of that board loads as the same rows.
use Rattle.std.specs.Prelude.{◌≡◌, ℕ, ◌<◌, ◌≤◌, List, length, take, Ok, Err, Result}
use Rattle.sheet.specs.Formed.{WellFormed}
use Rattle.sheet.specs.Loading.{after_load, load_answer}
use Rattle.sheet.specs.State.{fresh}
use Rattle.table.specs.Rows.{capacity, empty_row, row_at}
use Rattle.table.specs.declared.board.Board.{Board}
use Rattle.table.specs.declared.refusal.Refusal.{Refusal}
use Rattle.table.specs.declared.row.Row.{Row}
use Rattle.tablefile.specs.Numbers.{numbers}

-- a fresh sheet over a lent list loads the bytes, with a record for each task, as the same rows; any further row is empty
pub record LoadsBack (board : Board) (rows : List Row) (bytes : List ℕ) (lent : List Row) : Type 0 where
  pub accepted : load_answer (fresh board lent) bytes ≡ Ok (length (numbers rows))
  pub same_rows : (i : ℕ) → i < capacity rows → row_at (after_load (fresh board lent) bytes).rows i ≡ row_at rows i
  pub rest_empty : (i : ℕ) → capacity rows ≤ i → i < capacity lent → row_at (after_load (fresh board lent) bytes).rows i ≡ empty_row

-- of the bytes that were told: they load back into every fresh sheet of that board with no smaller capacity, if the rows
-- are such as a sheet holds after any list of calls
abbrev pub SavesSo : Board → List Row → Result ℕ Refusal → List ℕ → Type 0
SavesSo board rows (Ok n) out = WellFormed board rows → (lent : List Row) → capacity rows ≤ capacity lent → LoadsBack board rows (take n out) lent
SavesSo board rows (Err why) out = Unit {0}
