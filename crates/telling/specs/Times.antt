-- What is told of all response times together.
use Rattle.bounds.specs.Rounds.{Answer}
use Rattle.std.specs.Fmt.{decimal}
use Rattle.std.specs.Prelude.{ℕ, Bool, cond, List, [], ◌++◌, Ok, Err, codes, is_some, slice_index}
use Rattle.table.specs.Sets.{Set}
use Rattle.table.specs.Tasks.{slot}
use Rattle.table.specs.declared.tasks.Tasks.{Tasks}
use Rattle.tablefile.specs.Parts.{laid}

-- the numbers that have a task
abbrev pub has_task : Tasks → Set
has_task tasks k = is_some (slot tasks k)

-- the response time of a number that has a task
unfoldable pub time_text : Bool → ℕ → ℕ → List ℕ
time_text there k time = cond there (codes "\n  task " ++ (decimal k ++ (codes " ends within " ++ decimal time))) []

-- the same from the times by number
abbrev pub time_at : Set → List ℕ → ℕ → List ℕ
time_at tasks bounds k = time_text (tasks k) k (slice_index bounds k)

-- the times of the tasks, by rising number
unfoldable pub times_text : Set → List ℕ → List ℕ
times_text tasks bounds = laid 64 (time_at tasks bounds)

-- the round that settled and the times, or the task without a bound and the round
unfoldable pub settled_text : Set → Answer → List ℕ
settled_text tasks (Ok done) = codes "The response test settles in round " ++ (decimal done.round ++ times_text tasks done.bounds)
settled_text tasks (Err lacking) =
    codes "The response test finds no bound for task " ++ (decimal lacking.task ++ (codes " in round " ++ decimal lacking.round))
