-- The lines of a report, byte by byte.
use Rattle.std.specs.Prelude.{ℕ, Bool, cond, List, ◌++◌, Some, None, codes, decimal, Option}
use Rattle.table.specs.declared.board.Board.{Board}
use Rattle.table.specs.declared.row.Row.{Row}

-- the board
abbrev pub head_line : Board → List ℕ
head_line board = codes "cores " ++ (decimal board.cores ++ (codes " shared " ++ (decimal board.resources ++ codes "\n")))

abbrev pub standing_word : Bool → List ℕ
standing_word standing = cond standing (codes "standing") (codes "loose")

-- a core that is standing or not
abbrev pub core_line : ℕ → Bool → List ℕ
core_line k standing = codes "core " ++ (decimal k ++ (codes " " ++ (standing_word standing ++ codes "\n")))

-- a bound, or that there is none
abbrev pub bound_word : Option ℕ → List ℕ
bound_word (Some b) = decimal b
bound_word None = codes "none"

-- a task: its number, core, rank and bound
abbrev pub task_line : ℕ → Row → Option ℕ → List ℕ
task_line n row bound = decimal n ++ (codes " " ++ (decimal row.core ++ (codes " " ++ (decimal row.rank ++ (codes " " ++ (bound_word bound ++ codes "\n"))))))

-- a refusal, and how many records were entered before it
abbrev pub refused_line : ℕ → ℕ → List ℕ
refused_line n entered = codes "refused " ++ (decimal n ++ (codes " entered " ++ (decimal entered ++ codes "\n")))
