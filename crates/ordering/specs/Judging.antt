-- Judging present ranks: they pass, or the task of highest rank without a bound is named.
use Rattle.std.specs.Prelude.{◌≡◌, ℕ, zero, suc, ◌≤◌, Bool, true, cond, not, ◌&&◌, List, is_some, Some, None, Option, nat_lt}
use Rattle.ordering.specs.Orders.{Answers}
use Rattle.ordering.specs.Present.{Bounded}
use Rattle.table.specs.Ranks.{higher_ranked}
use Rattle.table.specs.Rows.{on_core, row_at}
use Rattle.table.specs.Sets.{Set}
use Rattle.table.specs.declared.row.Row.{Row}

-- one of some tasks that has no bound under the present ranks
abbrev pub fails : Answers → List Row → Set → ℕ → Bool
fails ask rows tasks i = tasks i && not (is_some (ask i (higher_ranked rows i)))

-- of a task found before and i, that of higher rank; the smaller number where the ranks are equal
abbrev pub higher_of : List Row → Option ℕ → ℕ → Option ℕ
higher_of rows None i = Some i
higher_of rows (Some j) i = cond (nat_lt (row_at rows i).rank (row_at rows j).rank) (Some i) (Some j)

-- of the tasks below n that fail, that of highest rank
unfoldable pub unbound_below : Answers → List Row → Set → ℕ → Option ℕ
unbound_below ask rows tasks zero = None
unbound_below ask rows tasks (suc n) = cond (fails ask rows tasks n) (higher_of rows (unbound_below ask rows tasks n) n) (unbound_below ask rows tasks n)

-- the task that fails with the highest rank, if any
abbrev pub unbound : Answers → List Row → Set → Option ℕ
unbound ask rows tasks = unbound_below ask rows tasks 64

-- in words: every task of the core has a bound; or the one named has none, and no other without one has a higher rank
abbrev pub Judges : Answers → List Row → ℕ → Option ℕ → Type 0
Judges ask rows core None = Bounded ask rows core
Judges ask rows core (Some i) =
    (fails ask rows (on_core rows core) i ≡ true)
    × ((j : ℕ) → fails ask rows (on_core rows core) j ≡ true → (row_at rows i).rank ≤ (row_at rows j).rank)
