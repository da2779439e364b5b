-- What a test is: a fixed function, and the laws that every test keeps.
use Rattle.std.specs.Prelude.{◌≡◌, ℕ, ◌≤◌, Bool, true, false, List, Some, None, Option, ◌≢◌}
use Rattle.table.specs.Rows.{on_board, on_core, own_rows, plain, row_at}
use Rattle.table.specs.Sets.{Set, Within}
use Rattle.table.specs.declared.board.Board.{Board}
use Rattle.table.specs.declared.row.Row.{Row}

-- from a board, a row list, a number and the set of those counted as higher: a bound, or none
abbrev pub Meaning : Type 0
Meaning = Board → List Row → ℕ → Set → Option ℕ

-- a bound stays a bound, and does not grow
abbrev pub NoLater : Option ℕ → Option ℕ → Type 0
NoLater None o = Unit {0}
NoLater (Some b) None = ⊥
NoLater (Some b) (Some c) = c ≤ b

pub record Laws (wide : Bool) (meaning : Meaning) : Type 0 where
  -- a bound lies from 1 to the deadline
  pub from_one : (board : Board) (rows : List Row) (i : ℕ) (above : Set) (b : ℕ) → meaning board rows i above ≡ Some b → 1 ≤ b
  pub by_deadline : (board : Board) (rows : List Row) (i : ℕ) (above : Set) (b : ℕ) → meaning board rows i above ≡ Some b → b ≤ (row_at rows i).figures.deadline
  -- only a task on a core of the board has one
  pub only_tasks : (board : Board) (rows : List Row) (i : ℕ) (above : Set) → on_board board rows i ≡ false → meaning board rows i above ≡ None
  -- of the set only the other tasks of its core count
  pub counted : (board : Board) (rows : List Row) (i : ℕ) (G H : Set) → ((j : ℕ) → (j ≢ i) → on_core rows (row_at rows i).core j ≡ true → G j ≡ H j) → meaning board rows i G ≡ meaning board rows i H
  -- ranks and empty rows make no difference
  pub ranks : (board : Board) (rows : List Row) (i : ℕ) (above : Set) → meaning board rows i above ≡ meaning board (plain rows) i above
  -- with fewer tasks above, a bound stays one and does not grow
  pub fewer : (board : Board) (rows : List Row) (i : ℕ) (G H : Set) → Within G H → NoLater (meaning board rows i H) (meaning board rows i G)
  -- for an own-core test the rows of other cores make no difference
  pub own : wide ≡ false → (board : Board) (rows : List Row) (core i : ℕ) (above : Set) → on_core rows core i ≡ true → meaning board rows i above ≡ meaning board (own_rows core rows) i above
