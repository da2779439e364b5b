-- The first number that passes a test.
use Rattle.std.specs.Prelude.{ℕ, zero, suc, Bool, cond, Some, None, Option}

-- the one found before, or else n if it passes
abbrev pub or_else : Option ℕ → Bool → ℕ → Option ℕ
or_else (Some k) passes n = Some k
or_else None passes n = cond passes (Some n) None

-- the smallest number below n that passes, if any
unfoldable pub first_that : (ℕ → Bool) → ℕ → Option ℕ
first_that test zero = None
first_that test (suc n) = or_else (first_that test n) (test n) n
