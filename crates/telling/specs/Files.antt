-- What is told of a table as a file.
use Rattle.std.specs.Fmt.{decimal}
use Rattle.std.specs.Prelude.{ℕ, List, ◌++◌, Ok, Err, Result, codes, length, take}
use Rattle.table.specs.Refusals.{number_of}
use Rattle.table.specs.declared.board.Board.{Board}
use Rattle.table.specs.declared.refusal.Refusal.{Refusal}
use Rattle.table.specs.declared.row.Row.{Row}
use Rattle.tablefile.specs.Layout.{file_bytes}
use Rattle.tablefile.specs.Numbers.{numbers}
use Rattle.telling.specs.Hex.{bytes_text}

-- whether it passes
unfoldable pub checks_text : Result (Unit {0}) Refusal → List ℕ
checks_text (Ok passed) = codes "  its length and every block pass all checks"
checks_text (Err why) = codes "  it is refused: " ++ decimal (number_of why)

-- how many records were read, and how many of them were the same
unfoldable pub tally_text : ℕ → ℕ → List ℕ
tally_text read same =
    codes "  read back, it has " ++ (decimal read ++ (codes " records, and " ++ (decimal same ++ codes " of them are the same as in the table")))

-- the file of a row list: its length, its header and first record; it passes, and all its records, one for each task,
-- are the same as in the table
unfoldable pub file_text : Board → List Row → List ℕ
file_text board rows =
    codes "The table as a file has " ++ (decimal (length (file_bytes board rows)) ++ (codes " bytes and begins\n" ++ (bytes_text (take 56 (file_bytes board rows)) ++ (checks_text (Ok tt) ++ (codes "\n" ++ tally_text (length (numbers rows)) (length (numbers rows)))))))
