-- What the program prints for a file: a report, or one line that tells the refusal.
use Rattle.std.specs.Prelude.{◌≡◌, ℕ, zero, suc, true, false, List, length, replicate, Some, None, Ok, Err, Option, Result, slice_index}
use Rattle.bounds.specs.Bounds.{deadline_bound}
use Rattle.promise.specs.declared.call.Answer.TheVariants.{Amended, Entered, Judged, Loaded, Ordered, Withdrawn}
use Rattle.promise.specs.declared.call.Answer.{Answer}
use Rattle.report.specs.Lines.{refused_line}
use Rattle.report.specs.Report.{report_text}
use Rattle.sheet.specs.Loading.{after_load, load_answer}
use Rattle.sheet.specs.Passing.{after_order}
use Rattle.sheet.specs.State.{State, fresh}
use Rattle.sheet.specs.declared.refused.Stopped.{Stopped}
use Rattle.table.specs.Boards.{board_limits}
use Rattle.table.specs.Refusals.{number_of}
use Rattle.table.specs.Rows.{empty_row}
use Rattle.table.specs.declared.board.Board.{Board}
use Rattle.table.specs.declared.refusal.Refusal.TheVariants.{BoardLimits, FileLength}
use Rattle.tablefile.specs.Refusing.{length_refusal}

-- a sheet of 64 rows, opened for a board
abbrev pub blank : Board → State
blank board = fresh board (replicate 64 empty_row)

-- the first n cores ordered one after the other by the deadline test; one that cannot be ordered stays as it is
abbrev pub ordered_cores : State → ℕ → State
ordered_cores s zero = s
ordered_cores s (suc n) = after_order deadline_bound true (ordered_cores s n) n

-- where a load stopped, if an answer is of one that did
abbrev pub stop_in : Option Answer → Option Stopped
stop_in None = None
stop_in (Some (Entered r)) = None
stop_in (Some (Loaded (Ok n))) = None
stop_in (Some (Loaded (Err stop))) = Some stop
stop_in (Some (Withdrawn r)) = None
stop_in (Some (Amended r)) = None
stop_in (Some (Judged r)) = None
stop_in (Some (Ordered r)) = None

-- what is printed once the load has answered
abbrev pub after_loading : Board → List ℕ → Result ℕ Stopped → List ℕ
after_loading board bytes (Ok n) = report_text deadline_bound (ordered_cores (after_load (blank board) bytes) board.cores)
after_loading board bytes (Err stop) = refused_line (number_of stop.cause) stop.entered

-- what is printed for a file that is made for a board
abbrev pub printed_for : Board → List ℕ → List ℕ
printed_for board bytes = after_loading board bytes (load_answer (blank board) bytes)

-- what is printed for a file: its length is looked at first, then the board in bytes 3 and 4, then it is loaded
pub record Printed (bytes text : List ℕ) : Type 0 where
  pub bad_length : length_refusal (length bytes) ≡ Some FileLength → text ≡ refused_line (number_of FileLength) 0
  pub bad_board : length_refusal (length bytes) ≡ None → board_limits (slice_index bytes 3) (slice_index bytes 4) ≡ false → text ≡ refused_line (number_of BoardLimits) 0
  pub analysed : length_refusal (length bytes) ≡ None → (board : Board) → board.cores ≡ slice_index bytes 3 → board.resources ≡ slice_index bytes 4 → text ≡ printed_for board bytes
