-- A sheet as the calls see it: its board, its rows and the marks of its cores.
use Rattle.sheet.specs.declared.closed.ClosedSheet.{ClosedSheet}
use Rattle.sheet.specs.declared.marks.Mark.TheVariants.{Loose}
use Rattle.sheet.specs.declared.marks.Mark.{Mark}
use Rattle.sheet.specs.declared.open.OpenSheet.{OpenSheet}
use Rattle.std.specs.Prelude.{◌≡◌, Bool, cond, List, ◌++◌, map, take, drop, replicate, Some, None, Option}
use Rattle.table.specs.Rows.{empty_row}
use Rattle.table.specs.declared.board.Board.{Board}
use Rattle.table.specs.declared.row.Row.{Row}

pub record State : Type 0 where
  pub board : Board
  pub rows : List Row
  pub marks : List Mark

abbrev pub state_of : OpenSheet → State
state_of s = record { board = s.board; rows = s.rows.now; marks = s.marks }

abbrev pub closed_state : ClosedSheet → State
closed_state s = state_of s.sheet

-- a sheet over the same lent list
abbrev pub IsLentAs : OpenSheet → OpenSheet → Type 0
IsLentAs before after = after.rows.ghost_name ≡ before.rows.ghost_name

-- after a call: in this state, over the same lent list
pub record Becomes (before after : OpenSheet) (s : State) : Type 0 where
  pub state : state_of after ≡ s
  pub lent : IsLentAs before after

-- opening empties the first 64 rows and leaves the rest; every core begins loose
abbrev pub fresh : Board → List Row → State
fresh board rows = record { board = board; rows = map (λ row. empty_row) (take 64 rows) ++ drop 64 rows; marks = replicate 8 Loose }

-- a refusal where a condition does not hold, and else what the later ones come to
abbrev pub require : {R : Type 0} → Bool → R → Option R → Option R
require holds why later = cond holds later (Some why)

-- the sheet after a call: changed, or as it was where the call is refused
abbrev pub unless : {R : Type 0} → Option R → State → State → State
unless None changed s = changed
unless (Some why) changed s = s
