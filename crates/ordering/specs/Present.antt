-- The order that the ranks of a row list give to a core's tasks.
use Rattle.std.specs.Prelude.{◌≡◌, ℕ, ◌<◌, true, List, [], ◌∷◌, is_some}
use Rattle.ordering.specs.Orders.{Answers, OrderOf, named}
use Rattle.table.specs.Ranks.{higher_ranked}
use Rattle.table.specs.Rows.{on_core, row_at}
use Rattle.table.specs.declared.row.Row.{Row}

-- the rank numbers fall along a list: every later task has a smaller one
abbrev pub Falls : List Row → List ℕ → Type 0
Falls rows [] = Unit {0}
Falls rows (x ∷ xs) = ((j : ℕ) → named xs j ≡ true → (row_at rows j).rank < (row_at rows x).rank) × Falls rows xs

-- a core's present order: its tasks, the largest rank number lowest
pub record PresentOrder (rows : List Row) (core : ℕ) (xs : List ℕ) : Type 0 where
  pub order : OrderOf (on_core rows core) xs
  pub falls : Falls rows xs

-- each task of the core has a bound with exactly the higher-ranked tasks of its core
abbrev pub Bounded : Answers → List Row → ℕ → Type 0
Bounded ask rows core = (i : ℕ) → on_core rows core i ≡ true → is_some (ask i (higher_ranked rows i)) ≡ true
