-- The search for an order: places are filled from the lowest, each by the first task that can take it.
use Rattle.std.specs.Prelude.{ℕ, zero, suc, ◌+◌, ◌*◌, ◌/◌, ◌≤◌, Bool, ◌&&◌, List, [], ◌∷◌, ◌++◌, is_some, Some, None, Option}
use Rattle.ordering.specs.Orders.{Answers, FirstOrder, Impossible}
use Rattle.table.specs.Firsts.{first_that}
use Rattle.table.specs.Sets.{Set, count_below, without}

-- how many tasks there are
abbrev pub size : Set → ℕ
size tasks = count_below tasks 64

-- a task can take the lowest place when it has a bound with all the others above it
abbrev pub can_take : Answers → Set → ℕ → Bool
can_take ask tasks k = tasks k && is_some (ask k (without tasks k))

-- the first that can, by rising number, if any
abbrev pub first_taker : Answers → Set → Option ℕ
first_taker ask tasks = first_that (can_take ask tasks) 64

-- tasks tried at one place, by rising number: those up to the taker, or all
abbrev pub tried : Set → Option ℕ → ℕ
tried tasks (Some k) = count_below tasks (k + 1)
tried tasks None = size tasks

-- what a search comes to: an order and the trials, or the trials and how many tasks are unplaced
pub data Outcome : Type 0 where
  ordered : List ℕ → ℕ → Outcome
  refused : ℕ → ℕ → Outcome

-- an outcome after some places were filled in some trials
abbrev pub after : List ℕ → ℕ → Outcome → Outcome
after xs t (ordered ys u) = ordered (xs ++ ys) (t + u)
after xs t (refused u unplaced) = refused (t + u) unplaced

-- one place: the taker stands there, and the rest goes on without it; or no task can take it
abbrev pub place : Option ℕ → ℕ → ℕ → (ℕ → Outcome) → Outcome
place (Some k) trials unplaced rest = after (k ∷ []) trials (rest k)
place None trials unplaced rest = refused trials unplaced

-- n places, by the tasks that are left
unfoldable pub fill : Answers → Set → ℕ → Outcome
fill ask tasks zero = ordered [] 0
fill ask tasks (suc n) =
    let taker = first_taker ask tasks in
    place taker (tried tasks taker) (suc n) (λ k. fill ask (without tasks k) n)

-- the search over some tasks
abbrev pub search_for : Answers → Set → Outcome
search_for ask tasks = fill ask tasks (size tasks)

-- the trials told
abbrev pub trials_of : Outcome → ℕ
trials_of (ordered xs t) = t
trials_of (refused t unplaced) = t

-- in words: an order that is found passes and is earlier than every other that does; and it is refused exactly when no
-- order passes
abbrev pub DecidesOrder : Answers → Set → Outcome → Type 0
DecidesOrder ask tasks (ordered xs t) = FirstOrder ask tasks xs
DecidesOrder ask tasks (refused t unplaced) = Impossible ask tasks

-- at most n (n + 1) / 2 trials for n tasks
abbrev pub FewTrials : Set → Outcome → Type 0
FewTrials tasks outcome = trials_of outcome ≤ size tasks * (size tasks + 1) / 2
