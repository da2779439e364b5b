-- The figures that were worked out by hand, as one table. A line holds when the definitions compute its figure.
use Rattle.std.specs.Prelude.{ℕ, Bool, true, false, ◌&&◌, List, [], ◌∷◌, length, take, Some, None, Ok, Err, Option, ◌==◌}
use Rattle.bounds.specs.Bounds.{composable_bound, deadline_bound}
use Rattle.bounds.specs.Rounds.{Answer, same, settled}
use Rattle.figures.specs.Tables.{lone_rows, long_rows, one_core, three_cores, tight_rows, tighter_rows, two_cores, worked_rows}
use Rattle.ordering.specs.Search.{Outcome, ordered, refused, search_for}
use Rattle.table.specs.Ranks.{higher_ranked}
use Rattle.table.specs.Rows.{on_core}
use Rattle.table.specs.Tests.{Meaning}
use Rattle.table.specs.declared.board.Board.{Board}
use Rattle.table.specs.declared.row.Row.{Row}

-- a line of the table
pub data Line : Type 0 where
  -- a test's bound of a number under the present ranks
  bound : Meaning → Board → List Row → ℕ → Option ℕ → Line
  -- what an ordering of a core by a test comes to
  order : Meaning → Board → List Row → ℕ → Outcome → Line
  -- what settling gives the first numbers, and in which round
  settle : Board → List Row → List ℕ → ℕ → Line

-- two answers are the same
abbrev pub same_bound : Option ℕ → Option ℕ → Bool
same_bound None None = true
same_bound None (Some _) = false
same_bound (Some _) None = false
same_bound (Some s) (Some t) = s == t

abbrev pub same_outcome : Outcome → Outcome → Bool
same_outcome (ordered xs t) (ordered ys u) = same xs ys && t == u
same_outcome (ordered xs t) (refused u left) = false
same_outcome (refused t left) (ordered ys u) = false
same_outcome (refused t left) (refused u left') = t == u && left == left'

abbrev pub settled_as : Answer → List ℕ → ℕ → Bool
settled_as (Ok s) list round = same (take (length list) s.bounds) list && s.round == round
settled_as (Err u) list round = false

abbrev pub holds : Line → Bool
holds (bound meaning board rows number figure) = same_bound (meaning board rows number (higher_ranked rows number)) figure
holds (order meaning board rows core outcome) = same_outcome (search_for (meaning board rows) (on_core rows core)) outcome
holds (settle board rows list round) = settled_as (settled board rows) list round

-- every line of a table holds, where `good` says which lines do
abbrev pub all_hold : {L : Type 0} → (L → Bool) → List L → Bool
all_hold good [] = true
all_hold good (line ∷ lines) = good line && all_hold good lines

abbrev pub figures : List Line
figures =
    bound deadline_bound two_cores worked_rows 1 (Some 3)
    ∷ bound deadline_bound two_cores worked_rows 2 (Some 7)
    ∷ bound deadline_bound two_cores worked_rows 3 (Some 5)
    ∷ bound composable_bound two_cores worked_rows 2 (Some 8)
    ∷ bound deadline_bound one_core tight_rows 1 (Some 12)
    ∷ bound composable_bound three_cores lone_rows 0 (Some 9)
    ∷ bound deadline_bound three_cores lone_rows 0 (Some 5)
    ∷ bound composable_bound one_core long_rows 0 None
    ∷ bound deadline_bound one_core long_rows 0 None
    ∷ order deadline_bound two_cores worked_rows 0 (ordered (1 ∷ 2 ∷ []) 2)
    ∷ order deadline_bound one_core tight_rows 0 (ordered (0 ∷ 1 ∷ []) 2)
    ∷ order deadline_bound one_core tighter_rows 0 (refused 2 2)
    ∷ settle two_cores worked_rows (0 ∷ 3 ∷ 6 ∷ 5 ∷ []) 2
    ∷ []
