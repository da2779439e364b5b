-- The limits of a row's figures. Those that name no board: periods, costs, sensitivities and stresses of at most ten
-- seconds, and a deadline within the period. Then those of a board. Times are whole microseconds.
use Rattle.std.specs.Prelude.{ℕ, Bool, ◌&&◌, ◌||◌, List, ◌==◌, nat_le, nat_lt, slice_index}
use Rattle.table.specs.declared.board.Board.{Board}
use Rattle.table.specs.declared.row.Figures.{Figures}

-- at most ten million
abbrev pub small : ℕ → Bool
small t = nat_le t 10000000

-- each of the four
abbrev pub all_small : List ℕ → Bool
all_small xs = small (slice_index xs 0) && small (slice_index xs 1) && small (slice_index xs 2) && small (slice_index xs 3)

-- every limit that names no board
unfoldable pub in_limits : Figures → Bool
in_limits f =
    nat_le 1 f.period && small f.period && nat_le 1 f.deadline && nat_le f.deadline f.period && nat_le 1 f.cost
    && small f.cost
    && all_small f.sensitivity
    && all_small f.stress

-- 0 for resource r, unless a board with h resources has it
abbrev pub none_lacking : ℕ → List ℕ → ℕ → Bool
none_lacking h xs r = nat_lt r h || slice_index xs r == 0

-- 0 for each of the four that it lacks
abbrev pub all_had : ℕ → List ℕ → Bool
all_had h xs = none_lacking h xs 0 && none_lacking h xs 1 && none_lacking h xs 2 && none_lacking h xs 3

-- every limit, on a board
unfoldable pub suits : Board → Figures → Bool
suits board f = in_limits f && all_had board.resources f.sensitivity && all_had board.resources f.stress
