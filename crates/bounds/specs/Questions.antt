-- A question as the code holds it, the right side of its recurrence computed from loads, and which question it is.
use Rattle.std.specs.Prelude.{◌≡◌, ℕ, ◌+◌, ◌-◌, ◌*◌, ◌<◌, min, true, false, cond, List, Some, None, sum_by, Option, MatchOption, slice_index}
use Rattle.bounds.specs.Demand.{above, deadline}
use Rattle.bounds.specs.Gathering.{Gathers, higher_form}
use Rattle.bounds.specs.Loads.{cost_at, of_core, weight_at}
use Rattle.bounds.specs.Rules.{contention}
use Rattle.bounds.specs.Sums.{sum_to}
use Rattle.bounds.specs.declared.load.Load.{Load}
use Rattle.bounds.specs.declared.load.Sums.{Sums}
use Rattle.bounds.specs.declared.question.Own.{Own}
use Rattle.shortlist.specs.Items.{items}
use Rattle.table.specs.Rows.{is_task, on_board, row_at}
use Rattle.table.specs.Sets.{Set}
use Rattle.table.specs.Tasks.{row_of}
use Rattle.table.specs.declared.board.Board.{Board}
use Rattle.table.specs.declared.row.Row.{Row}
use Rattle.table.specs.declared.task.Task.{Task}

-- execution of the task and of its higher ones
abbrev pub own_cost : Own → ℕ → ℕ
own_cost own t = own.task.figures.cost + sum_by (cost_at t) (items own.higher)

-- what they can suffer on resource r
abbrev pub own_shared : Own → ℕ → ℕ → ℕ
own_shared own r t = slice_index own.task.figures.sensitivity r + sum_by (weight_at r t) (items own.higher)

-- both, as sums
pub record SumsOf (own : Own) (t : ℕ) (sums : Sums) : Type 0 where
  pub cost : sums.cost ≡ own_cost own t
  pub shared : (r : ℕ) → r < 4 → slice_index sums.shared r ≡ own_shared own r t

-- what the loads of core y add on resource r
abbrev pub inflicted : List Load → ℕ → ℕ → ℕ → ℕ
inflicted loads r y t = sum_by (λ x. cond (of_core y x) (weight_at r t x) 0) loads

-- the composable test's right side: the same for each of the other cores
abbrev pub sensitivity_side : Board → Own → ℕ → ℕ
sensitivity_side board own t = own_cost own t + (board.cores - 1) * sum_to board.resources (λ r. own_shared own r t)

-- the deadline test's: the lesser of the two, for each of the other cores
abbrev pub lesser_side : Board → Own → List Load → ℕ → ℕ
lesser_side board own rivals t = own_cost own t + contention board own.task.core (λ r y. min (inflicted rivals r y t) (own_shared own r t))

-- the task of number i, if it is on a core of the board
abbrev pub Found : Board → List Row → ℕ → Option Task → Type 0
Found board rows i answer = MatchOption answer (on_board board rows i ≡ false) (λ task. (on_board board rows i ≡ true) × (row_at rows i ≡ row_of (Some task)))

-- the question is that of number i and a set
pub record Asks (board : Board) (rows : List Row) (i : ℕ) (set : Set) (own : Own) : Type 0 where
  pub found : on_board board rows i ≡ true
  pub core_is : own.task.core ≡ (row_at rows i).core
  pub figures_is : own.task.figures ≡ (row_at rows i).figures
  pub gathers : Gathers (above rows i set) (λ j. higher_form (row_at rows j)) 64 (items own.higher)

-- the deadline of a task, or 0
abbrev pub deadline_in : Option Task → ℕ
deadline_in None = 0
deadline_in (Some task) = task.figures.deadline

-- a list has the deadlines of the tasks
abbrev pub Deadlines : List Row → List ℕ → Type 0
Deadlines rows list = (j : ℕ) → is_task rows j ≡ true → slice_index list j ≡ deadline rows j
