-- What is told of a board.
use Rattle.std.specs.Prelude.{ℕ, List, ◌++◌, codes}
use Rattle.table.specs.declared.board.Board.{Board}
use Rattle.telling.specs.Counts.{counted_text}

-- its cores and its resources, and how to read the figures
abbrev pub board_text : Board → List ℕ
board_text board =
    codes "The board has " ++ (counted_text board.cores (codes "core") ++ (codes " and " ++ (counted_text board.resources (codes "shared resource") ++ codes ".\nTimes are whole microseconds. Rank 1 is the highest of its core.")))
