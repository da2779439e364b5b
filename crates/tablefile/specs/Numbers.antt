-- Which rows a file holds: those of the tasks, by rising number.
use Rattle.std.specs.Prelude.{◌≡◌, ℕ, zero, suc, ◌<◌, cond, List, [], ◌∷◌, ◌++◌, map, length, slice_index}
use Rattle.table.specs.Rows.{is_task, row_at}
use Rattle.table.specs.declared.row.Figures.{Figures}
use Rattle.table.specs.declared.row.Row.{Row}
use Rattle.tablefile.specs.declared.records.Record.{Record}

-- the numbers below n that have a task, rising
unfoldable pub tasks_below : List Row → ℕ → List ℕ
tasks_below rows zero = []
tasks_below rows (suc n) = tasks_below rows n ++ cond (is_task rows n) (n ∷ []) []

-- the numbers of all tasks, rising
unfoldable pub numbers : List Row → List ℕ
numbers rows = tasks_below rows 64

-- what a file holds of the row of a number
abbrev pub entry : List Row → ℕ → Record
entry rows n = record { number = n; fourth = 0; row = row_at rows n }

-- the records of some numbers
abbrev pub records_for : List Row → List ℕ → List Record
records_for rows ns = map (entry rows) ns

-- each of the numbers is that of a row of the list
abbrev pub AllWithin : List ℕ → List Row → Type 0
AllWithin ns rows = (p : ℕ) → p < length ns → slice_index ns p < length rows

-- X and Y are four figures each, as in every row of the code
pub record Four (f : Figures) : Type 0 where
  pub sensitivities : length f.sensitivity ≡ 4
  pub stresses : length f.stress ≡ 4

-- the row of each of the numbers has four figures of X and of Y
abbrev pub AllFour : List ℕ → List Row → Type 0
AllFour ns rows = (p : ℕ) → p < length ns → Four (row_at rows (slice_index ns p)).figures
