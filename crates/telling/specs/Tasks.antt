-- What is told of a task: its figures, and what both tests say of it under the present ranks.
use Rattle.bounds.specs.Bounds.{composable_bound, deadline_bound}
use Rattle.std.specs.Fmt.{decimal}
use Rattle.std.specs.Prelude.{ℕ, min, List, ◌++◌, Some, None, Option, codes, slice_index}
use Rattle.table.specs.Ranks.{higher_ranked}
use Rattle.table.specs.Rows.{row_at}
use Rattle.table.specs.declared.board.Board.{Board}
use Rattle.table.specs.declared.row.Figures.{Figures}
use Rattle.table.specs.declared.row.Row.{Row}
use Rattle.tablefile.specs.Parts.{laid}

-- what a test answers for a task with a deadline
unfoldable pub bound_text : List ℕ → ℕ → Option ℕ → List ℕ
bound_text test deadline None =
    codes "  " ++ (test ++ (codes " test: no bound within " ++ (decimal deadline ++ codes ", so it may miss its deadline")))
bound_text test deadline (Some t) =
    codes "  " ++ (test ++ (codes " test: ends within " ++ (decimal t ++ (codes ", so it meets its deadline of " ++ decimal deadline))))

-- what it suffers on a resource, and what it inflicts there
abbrev pub resource_text : Figures → ℕ → List ℕ
resource_text figures r =
    codes "\n  on resource " ++ (decimal r ++ (codes " it suffers up to " ++ (decimal (slice_index figures.sensitivity r) ++ (codes " from each other core, and inflicts up to " ++ decimal (slice_index figures.stress r)))))

-- a line for each of so many resources, of the four
unfoldable pub resources_text : ℕ → Figures → List ℕ
resources_text resources figures = laid (min resources 4) (resource_text figures)

-- the figures; of the resources only so many, which the board has
unfoldable pub figures_text : ℕ → Figures → List ℕ
figures_text resources figures =
    codes "  executes for " ++ (decimal figures.cost ++ (codes " alone, is released at most once every " ++ (decimal figures.period ++ (codes ", has to end within " ++ (decimal figures.deadline ++ resources_text resources figures)))))

-- a task of a number, on a core: its rank, its figures, and what the deadline test and the composable test say
unfoldable pub task_text : Board → List Row → ℕ → ℕ → Figures → List ℕ
task_text board rows k core figures =
    codes "Task " ++ (decimal k ++ (codes " on core " ++ (decimal core ++ (codes ", rank " ++ (decimal (row_at rows k).rank ++ (codes "\n" ++ (figures_text board.resources figures ++ (codes "\n" ++ (bound_text (codes "deadline") figures.deadline (deadline_bound board rows k (higher_ranked rows k)) ++ (codes "\n" ++ bound_text (codes "composable") figures.deadline (composable_bound board rows k (higher_ranked rows k))))))))))))
