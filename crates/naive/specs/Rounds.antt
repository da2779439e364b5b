-- How the rounds of the response test end.
use Rattle.std.specs.Prelude.{◌≡◌, ℕ, ◌<◌, ◌≤◌, true, false, List, Ok, Err, Result, length, slice_index}
use Rattle.naive.specs.declared.rounds.Settled.{Settled}
use Rattle.naive.specs.declared.rounds.Unsettled.{Unsettled}
use Rattle.naive.specs.declared.rounds.Unsettled.TheVariants.{Open, Unbounded}
use Rattle.table.specs.Rows.{on_board, row_at}
use Rattle.table.specs.declared.board.Board.{Board}
use Rattle.table.specs.declared.row.Row.{Row}

-- from 1 to the deadline for a task of the board, and 0 for any other number
abbrev pub IsEntry : Board → List Row → ℕ → ℕ → Type 0
IsEntry board rows k t = (on_board board rows k ≡ true → (1 ≤ t) × (t ≤ (row_at rows k).figures.deadline)) × (on_board board rows k ≡ false → t ≡ 0)

-- the entries of the numbers below n are such
abbrev pub AreEntries : Board → List Row → List ℕ → ℕ → Type 0
AreEntries board rows list n = (length list ≡ 64) × ((k : ℕ) → k < n → IsEntry board rows k (slice_index list k))

-- one of the rounds that are tried
abbrev pub IsRound : ℕ → Type 0
IsRound round = (1 ≤ round) × (round ≤ 1000)

-- in a round, with an entry for each number, or at a task of the board
abbrev pub Ends : Board → List Row → Result Settled Unsettled → Type 0
Ends board rows (Ok settled) = AreEntries board rows settled.bounds 64 × IsRound settled.round
Ends board rows (Err (Unbounded task round)) = (on_board board rows task ≡ true) × IsRound round
Ends board rows (Err Open) = Unit {0}
