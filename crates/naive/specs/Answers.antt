-- What the second reckoning finds in a row list: a number's task, the numbers that its rank puts above it, and deadlines.
use Rattle.std.specs.Prelude.{◌≡◌, ℕ, ◌≤◌, true, cond, Bool, ◌&&◌, List, [], ◌∷◌, ◌++◌, Some, None, Option, IfSome, nat_lt, slice_index}
use Rattle.table.specs.Ranks.{higher_ranked}
use Rattle.table.specs.Rows.{is_task, on_board, on_core, row_at}
use Rattle.table.specs.Sets.{Set}
use Rattle.table.specs.declared.board.Board.{Board}
use Rattle.table.specs.declared.row.Figures.{Figures}
use Rattle.table.specs.declared.row.Row.{Row}

-- the row of a number that has a task, or none
abbrev pub task_at : List Row → ℕ → Option Row
task_at rows k = cond (is_task rows k) (Some (row_at rows k)) None

-- a number has a task of the core of a row, with a smaller rank number
abbrev pub is_above : List Row → Row → ℕ → Bool
is_above rows me j = on_core rows me.core j && nat_lt (row_at rows j).rank me.rank

-- the tasks of its core that are ranked above a task; none above a number without one
abbrev pub ranked_above : List Row → ℕ → Set
ranked_above rows i j = is_task rows i && higher_ranked rows i j

-- the deadline of a number, or 0 where it has no task
abbrev pub deadline_at : List Row → ℕ → ℕ
deadline_at rows k = cond (is_task rows k) (row_at rows k).figures.deadline 0

-- a bound, or none: it lies from 1 to the deadline, and only a task on a core of the board has one
abbrev pub CanBeBound : Board → List Row → ℕ → Option ℕ → Type 0
CanBeBound board rows i answer = IfSome answer (λ t. (on_board board rows i ≡ true) × (1 ≤ t) × (t ≤ (row_at rows i).figures.deadline))

-- the first four of a list
abbrev four : List ℕ → List ℕ
four xs = slice_index xs 0 ∷ slice_index xs 1 ∷ slice_index xs 2 ∷ slice_index xs 3 ∷ []

-- the figures of a record, in their order
abbrev pub words_of : Figures → List ℕ
words_of f = f.cost ∷ f.period ∷ f.deadline ∷ (four f.sensitivity ++ four f.stress)
