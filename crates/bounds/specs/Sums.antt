-- Sums over task numbers, cores and resources.
use Rattle.std.specs.Prelude.{ℕ, zero, suc, ◌+◌, cond}
use Rattle.table.specs.Sets.{Set}

-- f 0 + f 1 + .. + f (n - 1)
unfoldable pub sum_to : ℕ → (ℕ → ℕ) → ℕ
sum_to zero f = 0
sum_to (suc n) f = sum_to n f + f n

-- the sum of f over the members of a set of task numbers
abbrev pub sum_over : Set → (ℕ → ℕ) → ℕ
sum_over set f = sum_to 64 (λ j. cond (set j) (f j) 0)
