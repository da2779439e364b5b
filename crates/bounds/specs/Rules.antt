-- The right sides of the recurrences: execution, and contention for every resource with every other core.
use Rattle.std.specs.Prelude.{ℕ, ◌+◌, min, cond, List, ◌==◌}
use Rattle.bounds.specs.Demand.{core, deadline, execution, total_sensitivity, total_stress}
use Rattle.bounds.specs.Sums.{sum_to}
use Rattle.table.specs.Sets.{Set}
use Rattle.table.specs.declared.board.Board.{Board}
use Rattle.table.specs.declared.row.Row.{Row}

-- a share for every resource of the board and every core but x
unfoldable pub contention : Board → ℕ → (ℕ → ℕ → ℕ) → ℕ
contention board x share = sum_to board.cores (λ y. cond (y == x) 0 (sum_to board.resources (λ r. share r y)))

-- a rule: from a board, rows, a number and a set, the right side as a function of the window's length
abbrev pub Rule : Type 0
Rule = Board → List Row → ℕ → Set → ℕ → ℕ

-- contention is the lesser of what core y can inflict and what the own core can suffer; the releases of task j of
-- another core are counted from `ahead j` before the window
abbrev pub lesser_rule : (ℕ → ℕ) → Rule
lesser_rule ahead board rows i set t =
    execution rows i set t
    + contention board (core rows i) (λ r y. min (total_stress rows ahead r y t) (total_sensitivity rows i set r t))

-- the deadline test counts them from a deadline before
abbrev pub deadline_rule : Rule
deadline_rule board rows = lesser_rule (deadline rows) board rows

-- the composable test takes all that the own core can suffer, from every other core, with or without tasks
abbrev pub composable_rule : Rule
composable_rule board rows i set t =
    execution rows i set t + contention board (core rows i) (λ r _. total_sensitivity rows i set r t)
