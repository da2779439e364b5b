-- The small tables that are worked through by hand.
use Rattle.std.specs.Prelude.{ℕ, true, List, [], ◌∷◌}
use Rattle.table.specs.Rows.{empty_row}
use Rattle.table.specs.declared.board.Board.{Board}
use Rattle.table.specs.declared.row.Row.{Row}
use Rattle.std.proofs.Common.{lit≤}

-- boards with one shared resource, and one core with none
abbrev pub one_core : Board
one_core = record { cores = 1; resources = 0; some_core = lit≤ tt; few_cores = lit≤ tt; few_resources = lit≤ tt }

abbrev pub two_cores : Board
two_cores = record { cores = 2; resources = 1; some_core = lit≤ tt; few_cores = lit≤ tt; few_resources = lit≤ tt }

abbrev pub three_cores : Board
three_cores = record { cores = 3; resources = 1; some_core = lit≤ tt; few_cores = lit≤ tt; few_resources = lit≤ tt }

-- a task by its core, rank, C, T, D and, for the first resource, X and Y
abbrev pub task_row : ℕ → ℕ → ℕ → ℕ → ℕ → ℕ → ℕ → Row
task_row core rank c t d x y = record { used = true; core = core; rank = rank; figures = record { cost = c; period = t; deadline = d; sensitivity = x ∷ 0 ∷ 0 ∷ 0 ∷ []; stress = y ∷ 0 ∷ 0 ∷ 0 ∷ [] } }

-- two tasks on core 0 and one on core 1, as numbers 1, 2 and 3
abbrev pub worked_rows : List Row
worked_rows = empty_row ∷ task_row 0 1 2 10 10 1 1 ∷ task_row 0 2 3 20 12 2 0 ∷ task_row 1 1 4 15 15 1 1 ∷ []

-- two tasks of C 6 on one core, that just fit into 12
abbrev pub tight_rows : List Row
tight_rows = task_row 0 1 6 12 12 0 0 ∷ task_row 0 2 6 12 12 0 0 ∷ []

-- and that do not fit into 11
abbrev pub tighter_rows : List Row
tighter_rows = task_row 0 1 6 11 11 0 0 ∷ task_row 0 2 6 11 11 0 0 ∷ []

-- one sensitive task that nobody stresses
abbrev pub lone_rows : List Row
lone_rows = task_row 0 1 5 20 20 2 0 ∷ []

-- a task that is longer than its deadline
abbrev pub long_rows : List Row
long_rows = task_row 0 1 11 10 10 0 0 ∷ []
