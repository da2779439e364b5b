-- Writing an order as ranks: n for the lowest place, down to 1 for the highest.
use Rattle.std.specs.Prelude.{◌≡◌, ℕ, ◌-◌, ◌<◌, ◌≤◌, true, false, List, [], ◌∷◌, length, drop, slice_set}
use Rattle.ordering.specs.Orders.{Answers, FirstOrder, Impossible, OrderOf, named}
use Rattle.ordering.specs.Present.{Bounded, PresentOrder}
use Rattle.ordering.specs.Search.{Outcome, ordered, refused}
use Rattle.table.specs.Rows.{on_core, row_at}
use Rattle.table.specs.declared.row.Row.{Row}

-- a row with another rank
abbrev pub with_rank : Row → ℕ → Row
with_rank row rank = record { used = row.used; core = row.core; rank = rank; figures = row.figures }

-- a list with another rank at one place; past its end nothing changes
abbrev pub reranked : List Row → ℕ → ℕ → List Row
reranked rows i rank = slice_set rows i (with_rank (row_at rows i) rank)

-- the ranks r, r - 1, .. written along a list of numbers
abbrev pub ranked_by : List Row → List ℕ → ℕ → List Row
ranked_by rows [] r = rows
ranked_by rows (i ∷ is) r = ranked_by (reranked rows i r) is (r - 1)

-- the ranks n to 1 written for an order of n tasks
abbrev pub written : List Row → List ℕ → List Row
written rows order = ranked_by rows order (length order)

-- in words: nothing but the ranks of the tasks named has changed, and nothing from a place on that none of them reaches;
-- and if those are the tasks of a core, each once, then the order is its present order, and its ranks are from 1 to n
pub record Writes (rows : List Row) (order : List ℕ) (after : List Row) : Type 0 where
  pub same_length : length after ≡ length rows
  pub but_ranks : (j : ℕ) → with_rank (row_at after j) 1 ≡ with_rank (row_at rows j) 1
  pub others : (j : ℕ) → named order j ≡ false → row_at after j ≡ row_at rows j
  pub rest : (n : ℕ) → ((j : ℕ) → named order j ≡ true → j < n) → drop n after ≡ drop n rows
  pub present : (core : ℕ) → OrderOf (on_core rows core) order → PresentOrder after core order
  pub ranks : (core : ℕ) → OrderOf (on_core rows core) order → (j : ℕ) → named order j ≡ true → (1 ≤ (row_at after j).rank) × ((row_at after j).rank ≤ length order)

-- the rows after a search: the ranks of an order that was found, or as they were
abbrev pub after_search : List Row → Outcome → List Row
after_search rows (ordered xs t) = written rows xs
after_search rows (refused t unplaced) = rows

-- in words: on the rows as they are then, the order is the core's present order, it is the first that passes, and each
-- task has a bound under its rank; and where it is refused, no row has changed and no order passes
pub record RanksFirst (meaning : List Row → Answers) (rows : List Row) (core : ℕ) (xs : List ℕ) (after : List Row) : Type 0 where
  pub writes : Writes rows xs after
  pub present : PresentOrder after core xs
  pub first : FirstOrder (meaning after) (on_core after core) xs
  pub bounded : Bounded (meaning after) after core

abbrev pub OrdersCore : (List Row → Answers) → List Row → ℕ → Outcome → List Row → Type 0
OrdersCore meaning rows core (ordered xs t) after = RanksFirst meaning rows core xs after
OrdersCore meaning rows core (refused t unplaced) after = (after ≡ rows) × Impossible (meaning rows) (on_core rows core)
