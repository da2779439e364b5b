-- The present ranks of a row list: rank 1 is the highest.
use Rattle.std.specs.Prelude.{ℕ, ◌&&◌, List, nat_lt}
use Rattle.table.specs.Rows.{on_core, row_at}
use Rattle.table.specs.Sets.{Set}
use Rattle.table.specs.declared.row.Row.{Row}

-- the tasks of i's core that are ranked above i
unfoldable pub higher_ranked : List Row → ℕ → Set
higher_ranked rows i j = on_core rows (row_at rows i).core j && nat_lt (row_at rows j).rank (row_at rows i).rank
