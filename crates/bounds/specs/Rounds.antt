-- The response test: in rounds, each task's bound from the numbers of the round before, until a round changes nothing.
use Rattle.std.specs.Prelude.{ℕ, zero, suc, Bool, true, false, cond, not, ◌&&◌, List, [], ◌∷◌, map, is_some, Some, None, Ok, Err, Option, Result, ◌==◌}
use Rattle.bounds.specs.Bounds.{ahead_bound}
use Rattle.bounds.specs.Demand.{cost}
use Rattle.bounds.specs.Lengths.{length_of}
use Rattle.bounds.specs.declared.response.Settled.{Settled}
use Rattle.bounds.specs.declared.response.Unbounded.{Unbounded}
use Rattle.std.specs.List.{range_with_len}
use Rattle.table.specs.Firsts.{first_that}
use Rattle.table.specs.Ranks.{higher_ranked}
use Rattle.table.specs.Rows.{on_board}
use Rattle.table.specs.declared.board.Board.{Board}
use Rattle.table.specs.declared.row.Row.{Row}

-- what f gives at each of the 64 numbers
abbrev pub each : (ℕ → ℕ) → List ℕ
each f = map f (range_with_len 0 64)

-- the list before round 1: C of each task, 0 for what is none
unfoldable pub start : Board → List Row → List ℕ
start board rows = each (λ i. cond (on_board board rows i) (cost rows i) 0)

-- in the round after a list: the deadline test's bound of a task under its rank, with the list in the place of the
-- deadlines; 0 for what is none
unfoldable pub bound_after : Board → List Row → List ℕ → ℕ → Option ℕ
bound_after board rows list i = cond (on_board board rows i) (ahead_bound (length_of list) board rows i (higher_ranked rows i)) (Some 0)

-- a bound as a number
abbrev pub number_of : Option ℕ → ℕ
number_of None = 0
number_of (Some t) = t

-- the bounds of all, or the smallest number that has none
abbrev pub all_or_first : (ℕ → Option ℕ) → Option ℕ → Result (List ℕ) ℕ
all_or_first f None = Ok (each (λ i. number_of (f i)))
all_or_first f (Some i) = Err i

abbrev pub lacks : (ℕ → Option ℕ) → ℕ → Bool
lacks f i = not (is_some (f i))

-- a round
unfoldable pub round_after : Board → List Row → List ℕ → Result (List ℕ) ℕ
round_after board rows list = all_or_first (bound_after board rows list) (first_that (lacks (bound_after board rows list)) 64)

-- two lists are equal
unfoldable pub same : List ℕ → List ℕ → Bool
same [] [] = true
same [] (y ∷ ys) = false
same (x ∷ xs) [] = false
same (x ∷ xs) (y ∷ ys) = x == y && same xs ys

-- what the test tells: the round that changed nothing and its list, or the task without a bound and the round
abbrev pub Answer : Type 0
Answer = Result Settled Unbounded

-- round k after a list ends the test at a task without a bound, or where it changes nothing; else the test goes on
abbrev pub ended : ℕ → List ℕ → Result (List ℕ) ℕ → (List ℕ → Option Answer) → Option Answer
ended k list (Ok next) rest = cond (same next list) (Some (Ok (record { round = k; bounds = next }))) (rest next)
ended k list (Err i) rest = Some (Err (record { task = i; round = k }))

-- the answer from round k on, if the test ends within n rounds
unfoldable pub rounds : Board → List Row → ℕ → ℕ → List ℕ → Option Answer
rounds board rows zero k list = None
rounds board rows (suc n) k list = ended k list (round_after board rows list) (rounds board rows n (suc k))

-- the answer, if the test ends within 1 + 64 × 10,000,000 rounds
unfoldable pub response : Board → List Row → Option Answer
response board rows = rounds board rows 640000001 1 (start board rows)

-- the answer itself: the contract of the test says that there always is one, so `None` never comes
abbrev pub the_answer : Option Answer → Answer
the_answer (Some r) = r
the_answer None = Err (record { task = 0; round = 0 })

unfoldable pub settled : Board → List Row → Answer
settled board rows = the_answer (response board rows)
