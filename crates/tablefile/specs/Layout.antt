-- The bytes of a file as it is written: records of 48 bytes, in blocks of 512.
use Rattle.std.specs.Prelude.{ℕ, ◌+◌, ◌*◌, ◌/◌, max, cond, List, [], ◌∷◌, ◌++◌, length, nat_lt, slice_index, slice_index_or}
use Rattle.table.specs.Rows.{empty_row}
use Rattle.table.specs.declared.board.Board.{Board}
use Rattle.table.specs.declared.row.Figures.{Figures}
use Rattle.table.specs.declared.row.Row.{Row}
use Rattle.tablefile.specs.Check.{check_of}
use Rattle.tablefile.specs.Numbers.{numbers, records_for}
use Rattle.tablefile.specs.Parts.{laid, part, zeros}
use Rattle.tablefile.specs.Spelling.{spelled}
use Rattle.tablefile.specs.declared.records.Record.{Record}

-- the eleven numbers of a record: C, T, D, four X and four Y
abbrev pub words : Figures → List ℕ
words f =
    f.cost ∷ f.period ∷ f.deadline
    ∷ slice_index f.sensitivity 0 ∷ slice_index f.sensitivity 1 ∷ slice_index f.sensitivity 2 ∷ slice_index f.sensitivity 3
    ∷ slice_index f.stress 0 ∷ slice_index f.stress 1 ∷ slice_index f.stress 2 ∷ slice_index f.stress 3 ∷ []

-- number i of a list, as four bytes
abbrev pub word_in : List ℕ → ℕ → List ℕ
word_in ns i = spelled 4 (slice_index ns i)

-- the 48 bytes of a record
unfoldable pub record_bytes : Record → List ℕ
record_bytes r = r.number ∷ r.row.core ∷ r.row.rank ∷ r.fourth ∷ laid 11 (word_in (words r.row.figures))

-- what stands for a record where there is none
abbrev pub no_record : Record
no_record = record { number = 0; fourth = 0; row = empty_row }

-- the 48 bytes at place p of a block: a record, or zeros
unfoldable pub place_bytes : List Record → ℕ → List ℕ
place_bytes rs p = cond (nat_lt p (length rs)) (record_bytes (slice_index_or rs p no_record)) (zeros 48)

-- the 510 bytes of block k up to its check
unfoldable pub front_bytes : Board → ℕ → List Record → List ℕ
front_bytes board k rs =
    spelled 2 k ++ (length rs ∷ board.cores ∷ board.resources ∷ 0 ∷ 0 ∷ 0 ∷ (laid 10 (place_bytes rs) ++ zeros 22))

-- the 512 bytes of block k
unfoldable pub block_bytes : Board → ℕ → List Record → List ℕ
block_bytes board k rs = front_bytes board k rs ++ spelled 2 (check_of (front_bytes board k rs))

-- the records of block k: ten to a block
abbrev pub in_block : List Row → ℕ → List Record
in_block rows k = records_for rows (part (numbers rows) (10 * k) 10)

-- the blocks for n records: as many as they need, and one for none
abbrev pub blocks_for : ℕ → ℕ
blocks_for n = max 1 ((n + 9) / 10)

-- the bytes of the file of a row list
unfoldable pub file_bytes : Board → List Row → List ℕ
file_bytes board rows = laid (blocks_for (length (numbers rows))) (λ k. block_bytes board k (in_block rows k))
