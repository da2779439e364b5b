-- Which places of a row list hold a task, and of which core; and the lists that keep of a row list only what a test
-- may look at.
use Rattle.std.specs.Prelude.{ℕ, min, Bool, true, false, cond, ◌&&◌, List, [], ◌∷◌, map, length, ◌==◌, nat_lt, slice_index_or}
use Rattle.std.specs.List.{range_with_len}
use Rattle.table.specs.Limits.{in_limits}
use Rattle.table.specs.declared.board.Board.{Board}
use Rattle.table.specs.declared.row.Row.{Row}

-- an empty row
abbrev pub empty_row : Row
empty_row = record { used = false; core = 0; rank = 1; figures = record { cost = 1; period = 1; deadline = 1; sensitivity = 0 ∷ 0 ∷ 0 ∷ 0 ∷ []; stress = 0 ∷ 0 ∷ 0 ∷ 0 ∷ [] } }

-- what is read past the end of a list: a row that is not used
abbrev pub past : Row
past = record { used = false; core = 0; rank = 0; figures = record { cost = 0; period = 0; deadline = 0; sensitivity = []; stress = [] } }

-- how many numbers a row list has: its length, or 64 if that is less
abbrev pub capacity : List Row → ℕ
capacity rows = min (length rows) 64

-- the row of a number
abbrev pub row_at : List Row → ℕ → Row
row_at rows k = slice_index_or rows k past

-- a row counts as a task's when it is used and its figures keep the limits
abbrev pub holds_task : Row → Bool
holds_task row = row.used && in_limits row.figures

-- a number has a task when its row counts as one: from place 64 on, none does
unfoldable pub is_task : List Row → ℕ → Bool
is_task rows k = nat_lt k 64 && holds_task (row_at rows k)

-- it has a task on that core
unfoldable pub on_core : List Row → ℕ → ℕ → Bool
on_core rows core k = is_task rows k && (row_at rows k).core == core

-- it has a task on a core of the board
unfoldable pub on_board : Board → List Row → ℕ → Bool
on_board board rows k = is_task rows k && nat_lt (row_at rows k).core board.cores

-- a task's row without its rank; any other row counts as empty
abbrev pub plain_row : Row → Row
plain_row row = cond (holds_task row) (record { used = true; core = row.core; rank = 1; figures = row.figures }) empty_row

-- the tasks alone, in 64 places, without their ranks
unfoldable pub plain : List Row → List Row
plain rows = map (λ k. plain_row (row_at rows k)) (range_with_len 0 64)

-- the tasks of one core alone, in 64 places, without their ranks
unfoldable pub own_rows : ℕ → List Row → List Row
own_rows core rows = map (λ k. cond (on_core rows core k) (plain_row (row_at rows k)) empty_row) (range_with_len 0 64)
