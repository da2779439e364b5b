-- Judging and ordering a core by a test: the answer, and the sheet afterwards.
use Rattle.std.specs.Prelude.{ℕ, ◌≤◌, Bool, cond, List, [], Some, None, Ok, Err, Option, Result, nat_lt, slice_set}
use Rattle.ordering.specs.Judging.{Judges, unbound}
use Rattle.ordering.specs.Orders.{Answers, Impossible}
use Rattle.ordering.specs.Search.{FewTrials, Outcome, ordered, refused, search_for}
use Rattle.ordering.specs.Writing.{RanksFirst, written}
use Rattle.sheet.specs.Marks.{standing}
use Rattle.sheet.specs.State.{State, require, unless}
use Rattle.sheet.specs.declared.refused.NotOrdered.TheVariants as order
use Rattle.sheet.specs.declared.refused.NotOrdered.{NotOrdered}
use Rattle.sheet.specs.declared.refused.NotPassing.TheVariants.{CoreLacking, NoBound}
use Rattle.sheet.specs.declared.refused.NotPassing.{NotPassing}
use Rattle.table.specs.Refusals.{done_unless}
use Rattle.table.specs.Rows.{on_core}
use Rattle.table.specs.Tests.{Meaning}
use Rattle.table.specs.declared.row.Row.{Row}

-- what the test answers on the sheet's board and rows
abbrev pub asked : Meaning → State → Answers
asked m s = m s.board s.rows

-- a core marked by a test that is wide or not, over some rows
abbrev pub marked_by : Bool → State → List Row → ℕ → State
marked_by wide s rows core = record { board = s.board; rows = rows; marks = slice_set s.marks core (standing wide) }

-- judge: the core is lacking; a task has no bound under the present ranks, and the one of highest rank is named
abbrev pub unbound_refusal : Option ℕ → Option NotPassing
unbound_refusal None = None
unbound_refusal (Some i) = Some (NoBound i)

abbrev pub judge_refusal : Meaning → State → ℕ → Option NotPassing
judge_refusal m s core = require (nat_lt core s.board.cores) CoreLacking (unbound_refusal (unbound (asked m s) s.rows (on_core s.rows core)))

abbrev pub judged : Bool → State → ℕ → State
judged wide s core = marked_by wide s s.rows core

abbrev pub judge_answer : Meaning → State → ℕ → Result (Unit {0}) NotPassing
judge_answer m s core = done_unless (judge_refusal m s core)

abbrev pub after_judge : Meaning → Bool → State → ℕ → State
after_judge m wide s core = unless (judge_refusal m s core) (judged wide s core) s

-- order: the core is lacking; no task can take a place; else the trials are told
abbrev pub searched : Meaning → State → ℕ → Outcome
searched m s core = search_for (asked m s) (on_core s.rows core)

abbrev pub order_told : Outcome → Result ℕ NotOrdered
order_told (ordered xs trials) = Ok trials
order_told (refused trials unplaced) = Err (order.NoOrder (record { trials = trials; unplaced = unplaced }))

abbrev pub order_set : Bool → State → ℕ → Outcome → State
order_set wide s core (ordered xs trials) = marked_by wide s (written s.rows xs) core
order_set wide s core (refused trials unplaced) = s

abbrev pub order_answer : Meaning → State → ℕ → Result ℕ NotOrdered
order_answer m s core = cond (nat_lt core s.board.cores) (order_told (searched m s core)) (Err order.CoreLacking)

abbrev pub after_order : Meaning → Bool → State → ℕ → State
after_order m wide s core = cond (nat_lt core s.board.cores) (order_set wide s core (searched m s core)) s

-- in words

-- a judging: each task of the core has a bound under the present ranks; or the core is lacking; or the task named has
-- none, and no other without one has a higher rank
abbrev pub JudgedSo : Meaning → State → ℕ → Result (Unit {0}) NotPassing → Type 0
JudgedSo m s core (Ok done) = Judges (asked m s) s.rows core None
JudgedSo m s core (Err CoreLacking) = s.board.cores ≤ core
JudgedSo m s core (Err (NoBound i)) = Judges (asked m s) s.rows core (Some i)

-- an ordering: some order is now the present one, it is the first that passes, and each task has a bound under its
-- rank; or the core is lacking; or no order passes. At most n (n + 1) / 2 trials for n tasks
abbrev pub OrderedSo : Meaning → State → ℕ → Result ℕ NotOrdered → List Row → Type 0
OrderedSo m s core (Ok trials) after =
    FewTrials (on_core s.rows core) (ordered [] trials) × ((xs : List ℕ) × RanksFirst (m s.board) s.rows core xs after)
OrderedSo m s core (Err order.CoreLacking) after = s.board.cores ≤ core
OrderedSo m s core (Err (order.NoOrder none)) after =
    FewTrials (on_core s.rows core) (refused none.trials none.unplaced) × Impossible (asked m s) (on_core s.rows core)
