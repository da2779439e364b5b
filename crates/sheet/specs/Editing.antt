-- Entering, withdrawing and amending: why each is refused, in the order of its checks, and the sheet afterwards.
use Rattle.std.specs.Prelude.{ℕ, Bool, true, not, ◌&&◌, List, is_some, None, Option, Result, ◌==◌, nat_le, nat_lt, slice_set}
use Rattle.sheet.specs.Marks.{loosened}
use Rattle.sheet.specs.State.{State, require, unless}
use Rattle.sheet.specs.declared.entry.Entry.{Entry}
use Rattle.table.specs.Firsts.{first_that}
use Rattle.table.specs.Limits.{suits}
use Rattle.table.specs.Refusals.{done_unless}
use Rattle.table.specs.Rows.{capacity, empty_row, is_task, on_core, row_at}
use Rattle.table.specs.Sets.{Set}
use Rattle.table.specs.declared.refusal.Refusal.TheVariants.{CoreLacking, FigureLimits, NumberEmpty, NumberOccupied, NumberTooLarge, RankUnavailable}
use Rattle.table.specs.declared.refusal.Refusal.{Refusal}
use Rattle.table.specs.declared.row.Figures.{Figures}
use Rattle.table.specs.declared.row.Row.{Row}
use Rattle.tablefile.specs.declared.records.Record.{Record}

-- the entry that a record of a file stands for
abbrev pub entry_of : Record → Entry
entry_of r = record { number = r.number; core = r.row.core; rank = r.row.rank; figures = r.row.figures }

-- the row that is written for an entry
abbrev pub row_of : Entry → Row
row_of e = record { used = true; core = e.core; rank = e.rank; figures = e.figures }

-- ranks

-- one of some tasks, with the rank
abbrev pub has_rank : List Row → Set → ℕ → ℕ → Bool
has_rank rows tasks rank k = tasks k && (row_at rows k).rank == rank

-- the first of some tasks that has the rank, if any
abbrev pub rank_holder : List Row → Set → ℕ → Option ℕ
rank_holder rows tasks rank = first_that (has_rank rows tasks rank) 64

-- a rank from 1 to 64 that no task of the core has
abbrev pub rank_free : List Row → ℕ → ℕ → Bool
rank_free rows core rank = nat_le 1 rank && nat_le rank 64 && not (is_some (rank_holder rows (on_core rows core) rank))

-- a row written, and the marks loosened by a change on its core
abbrev pub changed : State → ℕ → Row → ℕ → State
changed s n row core = record { board = s.board; rows = slice_set s.rows n row; marks = loosened s.marks core }

-- enter: the number is too large, or occupied; the core is lacking; the rank is outside its limits, or taken; a figure
-- breaks a limit, or something else about the row is not as it has to be
abbrev pub entry_refusal : State → Entry → Bool → Option Refusal
entry_refusal s e fine =
    require (nat_lt e.number (capacity s.rows)) NumberTooLarge
    (require (not (is_task s.rows e.number)) NumberOccupied
    (require (nat_lt e.core s.board.cores) CoreLacking
    (require (rank_free s.rows e.core e.rank) RankUnavailable
    (require (suits s.board e.figures && fine) FigureLimits None))))

abbrev pub entered : State → Entry → State
entered s e = changed s e.number (row_of e) e.core

abbrev pub enter_answer : State → Entry → Result (Unit {0}) Refusal
enter_answer s e = done_unless (entry_refusal s e true)

abbrev pub after_enter : State → Entry → State
after_enter s e = unless (entry_refusal s e true) (entered s e) s

-- withdraw: the number is too large, or empty
abbrev pub withdraw_refusal : State → ℕ → Option Refusal
withdraw_refusal s n = require (nat_lt n (capacity s.rows)) NumberTooLarge (require (is_task s.rows n) NumberEmpty None)

abbrev pub withdrawn : State → ℕ → State
withdrawn s n = changed s n empty_row (row_at s.rows n).core

abbrev pub withdraw_answer : State → ℕ → Result (Unit {0}) Refusal
withdraw_answer s n = done_unless (withdraw_refusal s n)

abbrev pub after_withdraw : State → ℕ → State
after_withdraw s n = unless (withdraw_refusal s n) (withdrawn s n) s

-- amend: the number is too large, or empty; a figure breaks a limit
abbrev pub amend_refusal : State → ℕ → Figures → Option Refusal
amend_refusal s n f =
    require (nat_lt n (capacity s.rows)) NumberTooLarge
    (require (is_task s.rows n) NumberEmpty
    (require (suits s.board f) FigureLimits None))

-- a row with other figures
abbrev pub with_figures : Row → Figures → Row
with_figures row f = record { used = row.used; core = row.core; rank = row.rank; figures = f }

abbrev pub amended : State → ℕ → Figures → State
amended s n f = changed s n (with_figures (row_at s.rows n) f) (row_at s.rows n).core

abbrev pub amend_answer : State → ℕ → Figures → Result (Unit {0}) Refusal
amend_answer s n f = done_unless (amend_refusal s n f)

abbrev pub after_amend : State → ℕ → Figures → State
after_amend s n f = unless (amend_refusal s n f) (amended s n f) s
