-- What a list of loads adds up to in a window of length t.
use Rattle.std.specs.Prelude.{◌≡◌, ℕ, ◌+◌, ◌*◌, ◌<◌, ◌≤◌, Bool, true, cond, List, [], sum_by, ◌==◌, slice_index}
use Rattle.bounds.specs.Demand.{releases}
use Rattle.bounds.specs.declared.load.Load.{Load}
use Rattle.bounds.specs.declared.load.Sums.{Sums}

-- releases of a load that the window sees
abbrev pub seen : ℕ → Load → ℕ
seen t load = releases (t + load.ahead.length) load.period

-- what a load adds: execution, and on resource r
abbrev pub cost_at : ℕ → Load → ℕ
cost_at t load = seen t load * load.cost

abbrev pub weight_at : ℕ → ℕ → Load → ℕ
weight_at r t load = seen t load * slice_index load.weight r

-- no sum exceeds b
pub record AtMost (b : ℕ) (s : Sums) : Type 0 where
  pub cost : s.cost ≤ b
  pub shared : (r : ℕ) → r < 4 → slice_index s.shared r ≤ b

-- n releases of a load more
pub record Added (before : Sums) (n : ℕ) (load : Load) (after : Sums) : Type 0 where
  pub cost : after.cost ≡ before.cost + n * load.cost
  pub shared : (r : ℕ) → r < 4 → slice_index after.shared r ≡ slice_index before.shared r + n * slice_index load.weight r

-- what the picked loads add to a start
pub record Total (pick : Load → Bool) (t : ℕ) (start : Sums) (loads : List Load) (sums : Sums) : Type 0 where
  pub cost : sums.cost ≡ start.cost + sum_by (λ x. cond (pick x) (cost_at t x) 0) loads
  pub shared : (r : ℕ) → r < 4 → slice_index sums.shared r ≡ slice_index start.shared r + sum_by (λ x. cond (pick x) (weight_at r t x) 0) loads

-- sums of nothing
abbrev pub no_sums : Sums
no_sums = record { cost = 0; shared = [] }

abbrev pub every : Load → Bool
every _ = true

-- the loads of one core
abbrev pub of_core : ℕ → Load → Bool
of_core y load = load.core == y
