-- What can happen in a window of length t: how long the tasks of a core can execute, how much they can suffer on a
-- shared resource, and how much the tasks of another core can inflict there.
use Rattle.std.specs.Prelude.{ℕ, ◌+◌, ◌-◌, ◌*◌, ◌/◌, not, ◌&&◌, List, ◌==◌, slice_index}
use Rattle.bounds.specs.Sums.{sum_over}
use Rattle.table.specs.Rows.{on_core, row_at}
use Rattle.table.specs.Sets.{Set}
use Rattle.table.specs.declared.row.Row.{Row}

-- the figures of number j: its core, C, T and D, and for resource r its X and Y
abbrev pub core : List Row → ℕ → ℕ
core rows j = (row_at rows j).core

abbrev pub cost : List Row → ℕ → ℕ
cost rows j = (row_at rows j).figures.cost

abbrev pub period : List Row → ℕ → ℕ
period rows j = (row_at rows j).figures.period

abbrev pub deadline : List Row → ℕ → ℕ
deadline rows j = (row_at rows j).figures.deadline

abbrev pub sensitivity : List Row → ℕ → ℕ → ℕ
sensitivity rows r j = slice_index (row_at rows j).figures.sensitivity r

abbrev pub stress : List Row → ℕ → ℕ → ℕ
stress rows r j = slice_index (row_at rows j).figures.stress r

-- releases in a window of length t: t over the period, rounded up, so that one at the window's very end is not counted
unfoldable pub releases : ℕ → ℕ → ℕ
releases t period = (t + (period - 1)) / period

-- the members of a set that count as higher than i: other tasks of its core
unfoldable pub above : List Row → ℕ → Set → Set
above rows i set j = set j && not (j == i) && on_core rows (core rows i) j

-- how long i and the tasks above it execute
unfoldable pub execution : List Row → ℕ → Set → ℕ → ℕ
execution rows i set t = cost rows i + sum_over (above rows i set) (λ j. releases t (period rows j) * cost rows j)

-- S: how much i and the tasks above it can suffer on resource r from one other core
unfoldable pub total_sensitivity : List Row → ℕ → Set → ℕ → ℕ → ℕ
total_sensitivity rows i set r t = sensitivity rows r i + sum_over (above rows i set) (λ j. releases t (period rows j) * sensitivity rows r j)

-- E: how much the tasks of core y can inflict on resource r, the releases of each task j counted from `ahead j` before
-- the window
unfoldable pub total_stress : List Row → (ℕ → ℕ) → ℕ → ℕ → ℕ → ℕ
total_stress rows ahead r y t = sum_over (on_core rows y) (λ j. releases (t + ahead j) (period rows j) * stress rows r j)
