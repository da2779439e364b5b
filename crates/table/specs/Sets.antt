-- Sets of task numbers.
use Rattle.std.specs.Prelude.{◌≡◌, ℕ, zero, suc, ◌+◌, Bool, true, false, cond, not, ◌&&◌, ◌||◌, ◌==◌, nat_lt, slice_index_or}
use Rattle.table.specs.declared.set.TaskSet.{TaskSet}

abbrev pub Set : Type 0
Set = ℕ → Bool

-- the numbers that a set of the code holds
abbrev pub members : TaskSet → Set
members s k = slice_index_or s.flags k false

-- one number more, if it is one that a task can have
abbrev pub with : Set → ℕ → Set
with set number k = set k || (k == number && nat_lt k 64)

-- one number less
unfoldable pub without : Set → ℕ → Set
without set number k = set k && not (k == number)

-- how many of the numbers below n it has
unfoldable pub count_below : Set → ℕ → ℕ
count_below set zero = 0
count_below set (suc n) = cond (set n) (count_below set n + 1) (count_below set n)

-- every member of the first is one of the second
abbrev pub Within : Set → Set → Type 0
Within inner outer = (k : ℕ) → inner k ≡ true → outer k ≡ true
