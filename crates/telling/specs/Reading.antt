-- What reading a file back finds: whether it passes, and which of its records are the same as in the table.
use Rattle.std.specs.Prelude.{◌≡◌, ℕ, zero, suc, ◌+◌, ◌/◌, ◌<◌, min, ◌⊎◌, List, length, Ok, Err, Some, None, Result}
use Rattle.table.specs.Rows.{row_at}
use Rattle.table.specs.declared.board.Board.{Board}
use Rattle.table.specs.declared.refusal.Refusal.{Refusal}
use Rattle.table.specs.declared.row.Row.{Row}
use Rattle.tablefile.specs.Reading.{block_at, count_at, record_at, record_of}
use Rattle.tablefile.specs.Refusing.{block_refusal, length_refusal}
use Rattle.tablefile.specs.declared.records.Record.{Record}

-- how many blocks are looked at: those that there are, up to seven
abbrev pub blocks_in : List ℕ → ℕ
blocks_in bytes = min (length bytes / 512) 7

-- the length and every block pass, or the refusal is that of the length or of a block
abbrev pub Checked : Board → List ℕ → Result (Unit {0}) Refusal → Type 0
Checked board bytes (Ok passed) =
    (length_refusal (length bytes) ≡ None) × ((k : ℕ) → k < blocks_in bytes → block_refusal board k (block_at bytes k) ≡ None)
Checked board bytes (Err why) =
    (length_refusal (length bytes) ≡ Some why) ⊎ ((k : ℕ) × (k < blocks_in bytes) × (block_refusal board k (block_at bytes k) ≡ Some why))

-- a record says what the row of its number says
abbrev pub SameRow : List Row → Record → Type 0
SameRow rows r = (r.number < length rows) × (row_at rows r.number ≡ r.row)

-- so do all records of a block
abbrev pub BlockSame : List Row → List ℕ → ℕ → Type 0
BlockSame rows bytes k = (p : ℕ) → p < count_at bytes k → SameRow rows (record_of (record_at bytes k p))

-- f 0, f 1 and so on, n of them, summed
unfoldable pub total : (ℕ → ℕ) → ℕ → ℕ
total f zero = 0
total f (suc n) = total f n + f n
