-- The bounds by the two rules, and what a bound is in words.
use Rattle.std.specs.Prelude.{◌≡◌, ℕ, true, cond, List, None, Option, MatchOption}
use Rattle.bounds.specs.Demand.{deadline}
use Rattle.bounds.specs.Rules.{Rule, composable_rule, deadline_rule, lesser_rule}
use Rattle.least.specs.Least.{Least, Unsolved, solution}
use Rattle.table.specs.Rows.{on_board}
use Rattle.table.specs.Sets.{Set}
use Rattle.table.specs.Tests.{Meaning}
use Rattle.table.specs.declared.board.Board.{Board}
use Rattle.table.specs.declared.row.Row.{Row}

-- the solution of a rule within the deadline; none for a number without a task on a core of the board
abbrev pub bound_by : Rule → Meaning
bound_by rule board rows i set = cond (on_board board rows i) (solution (rule board rows i set) (deadline rows i)) None

unfoldable pub composable_bound : Meaning
composable_bound = bound_by composable_rule

unfoldable pub deadline_bound : Meaning
deadline_bound = bound_by deadline_rule

-- the deadline test's bound with other lengths in the place of the deadlines of other cores' tasks
unfoldable pub ahead_bound : (ℕ → ℕ) → Meaning
ahead_bound ahead = bound_by (lesser_rule ahead)

-- in words: a bound is that of a task on the board, the smallest whole number from 1 to its deadline that solves the
-- recurrence; and where a task on the board has none, no such number solves it
abbrev pub BoundsLeast : Rule → Board → List Row → ℕ → Set → Option ℕ → Type 0
BoundsLeast rule board rows i set answer =
    MatchOption answer
    (on_board board rows i ≡ true → Unsolved (rule board rows i set) (deadline rows i))
    (λ t. (on_board board rows i ≡ true) × Least (rule board rows i set) (deadline rows i) t)
