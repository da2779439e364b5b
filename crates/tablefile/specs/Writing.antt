-- What writing a file answers and leaves, and that the file reads back as the same rows.
use Rattle.std.specs.Prelude.{◌≡◌, ℕ, ◌/◌, ◌<◌, Bool, cond, List, ◌++◌, length, take, drop, None, Ok, Err, Result, nat_lt}
use Rattle.table.specs.declared.board.Board.{Board}
use Rattle.table.specs.declared.refusal.Refusal.TheVariants.{BufferTooShort}
use Rattle.table.specs.declared.refusal.Refusal.{Refusal}
use Rattle.table.specs.declared.row.Row.{Row}
use Rattle.tablefile.specs.Layout.{file_bytes}
use Rattle.tablefile.specs.Numbers.{numbers, records_for}
use Rattle.tablefile.specs.Reading.{block_at, records_of}
use Rattle.tablefile.specs.Refusing.{block_refusal, length_refusal}

-- a buffer of n bytes is too short for the file
abbrev pub too_short : Board → List Row → ℕ → Bool
too_short board rows n = nat_lt n (length (file_bytes board rows))

-- how many bytes the file has, or the refusal
abbrev pub write_answer : Board → List Row → ℕ → Result ℕ Refusal
write_answer board rows n = cond (too_short board rows n) (Err BufferTooShort) (Ok (length (file_bytes board rows)))

-- the file, and then what stood there before; or all that stood there
abbrev pub buffer_after : Board → List Row → List ℕ → List ℕ
buffer_after board rows out = cond (too_short board rows (length out)) out (file_bytes board rows ++ drop (length (file_bytes board rows)) out)

-- bytes that pass every check for the board, and whose records are those of the rows' tasks, in the same order
pub record ReadsBack (board : Board) (rows : List Row) (bytes : List ℕ) : Type 0 where
  pub length_passes : length_refusal (length bytes) ≡ None
  pub blocks_pass : (k : ℕ) → k < length bytes / 512 → block_refusal board k (block_at bytes k) ≡ None
  pub same_rows : records_of bytes ≡ records_for rows (numbers rows)

-- of the bytes that were told, unless writing was refused
abbrev pub ComesBack : Board → List Row → Result ℕ Refusal → List ℕ → Type 0
ComesBack board rows (Ok n) out = ReadsBack board rows (take n out)
ComesBack board rows (Err e) out = Unit {0}
