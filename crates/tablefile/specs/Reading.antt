-- What a reader finds in a file: blocks, their counts, and records.
use Rattle.std.specs.Prelude.{ℕ, ◌+◌, ◌*◌, ◌/◌, true, cond, List, [], ◌∷◌, length, ◌==◌, slice_index}
use Rattle.tablefile.specs.Layout.{no_record}
use Rattle.tablefile.specs.Parts.{laid, part}
use Rattle.tablefile.specs.Spelling.{spells}
use Rattle.tablefile.specs.declared.records.Record.{Record}

-- the bytes of block k
abbrev pub block_at : List ℕ → ℕ → List ℕ
block_at bytes k = part bytes (512 * k) 512

-- the count that block k states
abbrev pub count_at : List ℕ → ℕ → ℕ
count_at bytes k = slice_index bytes (512 * k + 2)

-- the bytes of record p of block k
abbrev pub record_at : List ℕ → ℕ → ℕ → List ℕ
record_at bytes k p = part bytes (512 * k + 8 + 48 * p) 48

-- the number that four bytes from a place on spell
abbrev pub number_at : List ℕ → ℕ → ℕ
number_at bytes at = spells (part bytes at 4)

-- the four numbers from a place on
abbrev pub four_at : List ℕ → ℕ → List ℕ
four_at bytes at = number_at bytes at ∷ number_at bytes (at + 4) ∷ number_at bytes (at + 8) ∷ number_at bytes (at + 12) ∷ []

-- the record that 48 bytes spell
abbrev pub spelled_record : List ℕ → Record
spelled_record bytes = record {
  number = slice_index bytes 0;
  fourth = slice_index bytes 3;
  row = record {
    used = true;
    core = slice_index bytes 1;
    rank = slice_index bytes 2;
    figures = record {
      cost = number_at bytes 4;
      period = number_at bytes 8;
      deadline = number_at bytes 12;
      sensitivity = four_at bytes 16;
      stress = four_at bytes 32;
    };
  };
}

-- bytes of another length spell no record
unfoldable pub record_of : List ℕ → Record
record_of bytes = cond (length bytes == 48) (spelled_record bytes) no_record

-- the records of block k, as many as it states
abbrev pub records_at : List ℕ → ℕ → List Record
records_at bytes k = laid (count_at bytes k) (λ p. record_of (record_at bytes k p) ∷ [])

-- the records of a file, block after block
unfoldable pub records_of : List ℕ → List Record
records_of bytes = laid (length bytes / 512) (records_at bytes)
