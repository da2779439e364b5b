-- Loading a file: its length, then block after block its check and its records, each entered like any other row, up to
-- the first refusal. What was entered stays.
use Rattle.std.specs.Prelude.{◌≡◌, ℕ, ◌+◌, ◌/◌, ◌<◌, List, [], ◌∷◌, length, take, Some, None, Ok, Err, Option, Result, ◌==◌}
use Rattle.sheet.specs.Editing.{entered, entry_of, entry_refusal}
use Rattle.sheet.specs.Refused.{layer_of}
use Rattle.sheet.specs.State.{State}
use Rattle.sheet.specs.declared.refused.Stopped.{Stopped}
use Rattle.table.specs.declared.board.Board.{Board}
use Rattle.table.specs.declared.refusal.Refusal.{Refusal}
use Rattle.tablefile.specs.Parts.{laid}
use Rattle.tablefile.specs.Reading.{block_at, count_at, record_at, record_of, records_of}
use Rattle.tablefile.specs.Refusing.{block_refusal, length_refusal}
use Rattle.tablefile.specs.declared.records.Record.{Record}

-- what a load does, one after the other
pub data Step : Type 0 where
  -- block k is checked
  check : ℕ → Step
  -- record p of block k is entered
  enter : ℕ → ℕ → Step

-- the records of block k are entered, as many as it states
abbrev pub one_record : ℕ → ℕ → List Step
one_record k p = enter k p ∷ []

abbrev pub record_steps : List ℕ → ℕ → List Step
record_steps bytes k = laid (count_at bytes k) (one_record k)

-- block k is checked before its records
abbrev pub block_steps : List ℕ → ℕ → List Step
block_steps bytes k = check k ∷ record_steps bytes k

-- block after block
abbrev pub steps : List ℕ → List Step
steps bytes = laid (length bytes / 512) (block_steps bytes)

-- the record of a step
abbrev pub filed : List ℕ → ℕ → ℕ → Record
filed bytes k p = record_of (record_at bytes k p)

-- a record is refused like an entry, and where its fourth byte is not zero
abbrev pub record_refusal : State → Record → Option Refusal
record_refusal s r = entry_refusal s (entry_of r) (r.fourth == 0)

abbrev pub step_refusal : List ℕ → State → Step → Option Refusal
step_refusal bytes s (check k) = block_refusal s.board k (block_at bytes k)
step_refusal bytes s (enter k p) = record_refusal s (filed bytes k p)

-- the sheet after a step that is not refused, and how many records were entered by then
abbrev pub stepped : List ℕ → State → Step → State
stepped bytes s (check k) = s
stepped bytes s (enter k p) = entered s (entry_of (filed bytes k p))

abbrev pub counted : ℕ → Step → ℕ
counted n (check k) = n
counted n (enter k p) = n + 1

-- what is told of a refusal at record p of block k, after n records were entered
abbrev pub stop : Refusal → ℕ → ℕ → ℕ → Stopped
stop why k p n = record { layer = layer_of why; cause = why; block = k; «record» = p; entered = n }

-- the record is 0 where a block is refused
abbrev pub stopped_at : Step → Refusal → ℕ → Stopped
stopped_at (check k) why n = stop why k 0 n
stopped_at (enter k p) why n = stop why k p n

-- what a load comes to: the sheet, and the records entered or where and why it stopped
pub record Loaded : Type 0 where
  pub sheet : State
  pub told : Result ℕ Stopped

abbrev pub on_refusal : Option Refusal → (Refusal → Loaded) → Loaded → Loaded
on_refusal None stop go = go
on_refusal (Some why) stop go = stop why

-- steps taken in turn, up to the first that is refused, after n records were entered
unfoldable pub taken : List ℕ → State → ℕ → List Step → Loaded
taken bytes s n [] = record { sheet = s; told = Ok n }
taken bytes s n (x ∷ xs) =
    on_refusal (step_refusal bytes s x)
    (λ why. record { sheet = s; told = Err (stopped_at x why n) })
    (taken bytes (stepped bytes s x) (counted n x) xs)

-- a file of no length that a file can have is refused before any block
abbrev pub loaded : State → List ℕ → Loaded
loaded s bytes = on_refusal (length_refusal (length bytes)) (λ why. record { sheet = s; told = Err (stop why 0 0 0) }) (taken bytes s 0 (steps bytes))

abbrev pub load_answer : State → List ℕ → Result ℕ Stopped
load_answer s bytes = (loaded s bytes).told

abbrev pub after_load : State → List ℕ → State
after_load s bytes = (loaded s bytes).sheet

-- in words

-- records entered in turn, none of them refused
abbrev pub Enters : State → List Record → State → Type 0
Enters s [] after = after ≡ s
Enters s (r ∷ rs) after = (record_refusal s r ≡ None) × Enters (entered s (entry_of r)) rs after

-- how many records a load entered, also where it was refused
abbrev pub count_told : Result ℕ Stopped → ℕ
count_told (Ok n) = n
count_told (Err why) = why.entered

-- a load that is not refused entered every record, of a file that passes every check
abbrev pub Whole : Board → List ℕ → Result ℕ Stopped → Type 0
Whole board bytes (Ok n) =
    (length_refusal (length bytes) ≡ None) × ((k : ℕ) → k < length bytes / 512 → block_refusal board k (block_at bytes k) ≡ None) × (n ≡ length (records_of bytes))
Whole board bytes (Err why) = Unit {0}

-- a load entered the first records of the file, as many as it told, and else nothing has changed
pub record Loads (s : State) (bytes : List ℕ) (told : Result ℕ Stopped) (after : State) : Type 0 where
  pub enters : Enters s (take (count_told told) (records_of bytes)) after
  pub whole : Whole s.board bytes told
