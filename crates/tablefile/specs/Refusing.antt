-- What makes a file refused, and in which order: its length first, then block after block its check, its number and its
-- layout.
use Rattle.std.specs.Prelude.{ℕ, ◌+◌, ◌-◌, ◌*◌, ◌%◌, Bool, cond, ◌&&◌, List, length, take, drop, Some, None, Option, ◌==◌, nat_le, slice_index}
use Rattle.table.specs.declared.board.Board.{Board}
use Rattle.table.specs.declared.refusal.Refusal.TheVariants.{BlockCheck, BlockLayout, BlockNumber, FileLength}
use Rattle.table.specs.declared.refusal.Refusal.{Refusal}
use Rattle.tablefile.specs.Check.{check_of}
use Rattle.tablefile.specs.Parts.{all_zero, part}
use Rattle.tablefile.specs.Spelling.{spells}

-- a file has 1 to 64 whole blocks
abbrev pub length_refusal : ℕ → Option Refusal
length_refusal n = cond (nat_le 1 n && nat_le n 32768 && n % 512 == 0) None (Some FileLength)

-- the last two bytes of a block spell the check of those before
abbrev pub check_stands : List ℕ → Bool
check_stands bytes = spells (drop 510 bytes) == check_of (take 510 bytes)

-- the first two bytes of a block spell its number
abbrev pub bears_number : ℕ → List ℕ → Bool
bears_number k bytes = spells (take 2 bytes) == k

-- the header states at most ten records and the cores and resources of the board, and ends in three zeros
abbrev pub header_fits : Board → List ℕ → Bool
header_fits board bytes =
    nat_le (slice_index bytes 2) 10 && slice_index bytes 3 == board.cores && slice_index bytes 4 == board.resources
    && slice_index bytes 5 == 0
    && slice_index bytes 6 == 0
    && slice_index bytes 7 == 0

-- the bytes from the first unused place to the check are zero
abbrev pub rest_zero : List ℕ → Bool
rest_zero bytes = all_zero (part bytes (8 + 48 * slice_index bytes 2) (510 - (8 + 48 * slice_index bytes 2)))

-- the first refusal that applies to block k; bytes of another length are no block
unfoldable pub block_refusal : Board → ℕ → List ℕ → Option Refusal
block_refusal board k bytes =
    cond (length bytes == 512)
    (cond (check_stands bytes)
    (cond (bears_number k bytes)
    (cond (header_fits board bytes && rest_zero bytes) None (Some BlockLayout))
    (Some BlockNumber))
    (Some BlockCheck))
    (Some FileLength)
