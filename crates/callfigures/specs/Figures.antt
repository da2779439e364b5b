-- Figures worked out by hand for calls on a sheet, one table: a line is a question and its answer.
use Rattle.std.specs.Prelude.{ℕ, Bool, true, false, List, [], ◌∷◌}
use Rattle.bounds.specs.Bounds.{composable_bound, deadline_bound}
use Rattle.bounds.specs.Rounds.{same}
use Rattle.callfigures.specs.Told.{all_told, by_bound}
use Rattle.figures.specs.Tables.{one_core, task_row}
use Rattle.promise.specs.Calls.{after_all, answers_to}
use Rattle.promise.specs.declared.call.Call.TheVariants.{Enter, Order}
use Rattle.promise.specs.declared.call.Call.{Call}
use Rattle.sheet.specs.Reading.{bound_answer}
use Rattle.sheet.specs.State.{fresh}
use Rattle.sheet.specs.declared.entry.Entry.{Entry}
use Rattle.table.specs.Rows.{empty_row}
use Rattle.table.specs.Tests.{Meaning}
use Rattle.table.specs.declared.board.Board.{Board}
use Rattle.table.specs.declared.row.Row.{Row}

-- the places of a sheet with two rows
abbrev pub two_places : List Row
two_places = empty_row ∷ empty_row ∷ []

-- an entry on core 0 by its number, rank and C, with a deadline that is its period, and neither X nor Y
abbrev pub entry : ℕ → ℕ → ℕ → ℕ → Entry
entry number rank c t = record { number = number; core = 0; rank = rank; figures = (task_row 0 rank c t t 0 0).figures }

pub data Line : Type 0 where
  -- what each of some calls by a wide or own-core test tells, on a sheet that is opened over a row list
  calls : Meaning → Bool → Board → List Row → List Call → List (List ℕ) → Line
  -- what reading the bound of a number tells after them
  reading : Meaning → Bool → Board → List Row → List Call → ℕ → List ℕ → Line

-- a line's question has its answer
abbrev pub holds : Line → Bool
holds (calls meaning wide board rows cs figures) = all_told (answers_to meaning wide (fresh board rows) cs) figures
holds (reading meaning wide board rows cs number figures) = same (by_bound (bound_answer meaning (after_all meaning wide (fresh board rows) cs) number)) figures

abbrev pub figures : List Line
figures =
    calls deadline_bound true one_core two_places (Enter (entry 0 1 11 10) ∷ []) ((0 ∷ []) ∷ [])
    ∷ reading deadline_bound true one_core two_places (Enter (entry 0 1 11 10) ∷ []) 0 (13 ∷ [])
    ∷ reading composable_bound false one_core two_places (Enter (entry 0 1 11 10) ∷ []) 0 (13 ∷ [])
    ∷ calls deadline_bound true one_core two_places (Enter (entry 0 1 6 12) ∷ Enter (entry 1 2 6 12) ∷ Order 0 ∷ []) ((0 ∷ []) ∷ (0 ∷ []) ∷ (0 ∷ 2 ∷ []) ∷ [])
    ∷ calls deadline_bound true one_core two_places (Enter (entry 0 1 6 11) ∷ Enter (entry 1 2 6 11) ∷ Order 0 ∷ []) ((0 ∷ []) ∷ (0 ∷ []) ∷ (12 ∷ 2 ∷ 2 ∷ []) ∷ [])
    ∷ []
