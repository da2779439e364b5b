-- What can be read of a sheet without a change: the bound of a task under the present ranks.
use Rattle.std.specs.Prelude.{ℕ, cond, Some, None, Ok, Err, Option, Result, nat_lt}
use Rattle.sheet.specs.Passing.{asked}
use Rattle.sheet.specs.State.{State}
use Rattle.table.specs.Ranks.{higher_ranked}
use Rattle.table.specs.Rows.{capacity, is_task}
use Rattle.table.specs.Tests.{Meaning}
use Rattle.table.specs.declared.refusal.Refusal.TheVariants.{NoBound, NumberEmpty, NumberTooLarge}
use Rattle.table.specs.declared.refusal.Refusal.{Refusal}

-- a bound, or the refusal of a task without one
abbrev pub bound_or_refusal : Option ℕ → Result ℕ Refusal
bound_or_refusal (Some b) = Ok b
bound_or_refusal None = Err NoBound

-- bound: the number is too large, or empty; the task has no bound with exactly the higher-ranked tasks of its core
abbrev pub bound_answer : Meaning → State → ℕ → Result ℕ Refusal
bound_answer m s n =
    cond (nat_lt n (capacity s.rows))
    (cond (is_task s.rows n) (bound_or_refusal (asked m s n (higher_ranked s.rows n))) (Err NumberEmpty))
    (Err NumberTooLarge)
