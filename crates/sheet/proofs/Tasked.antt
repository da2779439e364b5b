-- In well-formed rows a row is a task's exactly if it is used.
use Rattle.std.proofs.Common.{◌≡◌, ℕ, ◌<◌, true, List}
use Rattle.sheet.specs.Formed.{WellFormed}
use Rattle.std.proofs.lemmas.Bool.{and_from, and_parts}
use Rattle.table.proofs.Places.{on_core_from, task_from, task_holds}
use Rattle.table.specs.Limits.{in_limits, suits}
use Rattle.table.specs.Rows.{is_task, on_core, row_at}
use Rattle.table.specs.declared.board.Board.{Board}
use Rattle.table.specs.declared.row.Figures.{Figures}
use Rattle.table.specs.declared.row.Row.{Row}

suits_limits : (board : Board) (f : Figures) → suits board f ≡ true → in_limits f ≡ true
unfolding suits
suits_limits board f e = (and_parts (in_limits f) _ (and_parts _ _ e).0).0

pub task_used : (rows : List Row) (i : ℕ) → is_task rows i ≡ true → (row_at rows i).used ≡ true
task_used rows i h = (and_parts (row_at rows i).used (in_limits (row_at rows i).figures) (task_holds rows i h)).0

pub used_task : (board : Board) (rows : List Row) (i : ℕ) → WellFormed board rows → i < 64 → (row_at rows i).used ≡ true → is_task rows i ≡ true
used_task board rows i h l u = task_from rows i l (and_from (row_at rows i).used (in_limits (row_at rows i).figures) u (suits_limits board (row_at rows i).figures (h.lawful i l u).limits))

pub used_on : (board : Board) (rows : List Row) (core i : ℕ) → WellFormed board rows → i < 64 → (row_at rows i).used ≡ true → (row_at rows i).core ≡ core → on_core rows core i ≡ true
used_on board rows core i h l u e = on_core_from rows core i (used_task board rows i h l u) e
