-- Which cores stand, told by the calls that were accepted, with no word of how marks are kept.
use Rattle.std.specs.Prelude.{◌≡◌, ℕ, Bool, false, ◌||◌, List, [], ◌∷◌, ◌++◌, map, take, Ok, Err, Result, ◌==◌}
use Rattle.promise.specs.Calls.{after}
use Rattle.promise.specs.declared.call.Call.TheVariants.{Amend, Enter, Judge, Load, Order, Withdraw}
use Rattle.promise.specs.declared.call.Call.{Call}
use Rattle.sheet.specs.Editing.{amend_answer, enter_answer, withdraw_answer}
use Rattle.sheet.specs.Loading.{count_told, load_answer}
use Rattle.sheet.specs.Passing.{judge_answer, order_answer}
use Rattle.sheet.specs.State.{State}
use Rattle.table.specs.Rows.{row_at}
use Rattle.table.specs.Tests.{Meaning}
use Rattle.tablefile.specs.Reading.{records_of}
use Rattle.tablefile.specs.declared.records.Record.{Record}

-- what an accepted call did
pub data Event : Type 0 where
  -- a row of the core was entered, withdrawn or amended
  changed : ℕ → Event
  -- the core was marked standing
  marked : ℕ → Event

-- what a call did if it was accepted; a refused call did nothing
abbrev pub if_accepted : {X R : Type 0} → Result X R → Event → List Event
if_accepted (Ok x) event = event ∷ []
if_accepted (Err why) event = []

-- a record that is entered changes its core
abbrev pub entry_event : Record → Event
entry_event r = changed r.row.core

-- what a call did; the records that a load entered are the first of the file, as many as it told
abbrev pub events_of : Meaning → State → Call → List Event
events_of m s (Enter e) = if_accepted (enter_answer s e) (changed e.core)
events_of m s (Load bytes) = map entry_event (take (count_told (load_answer s bytes.now)) (records_of bytes.now))
events_of m s (Withdraw n) = if_accepted (withdraw_answer s n) (changed (row_at s.rows n).core)
events_of m s (Amend n f) = if_accepted (amend_answer s n f) (changed (row_at s.rows n).core)
events_of m s (Judge core) = if_accepted (judge_answer m s core) (marked core)
events_of m s (Order core) = if_accepted (order_answer m s core) (marked core)

-- what a list of calls did
abbrev pub events : Meaning → Bool → State → List Call → List Event
events m wide s [] = []
events m wide s (c ∷ cs) = events_of m s c ++ events m wide (after m wide s c) cs

-- what makes a core loose that stands by a test: a change on that core or, if the test is wide, on any core
abbrev pub loosens : Bool → ℕ → Event → Bool
loosens wide core (changed j) = wide || j == core
loosens wide core (marked j) = false

-- what marks a core
abbrev pub marks : ℕ → Event → Bool
marks core (changed j) = false
marks core (marked j) = j == core

-- none of these marks the core, and none makes it loose
abbrev pub Untouched : Bool → ℕ → List Event → Type 0
Untouched wide core [] = Unit {0}
Untouched wide core (e ∷ es) = (marks core e ≡ false) × (loosens wide core e ≡ false) × Untouched wide core es

-- some event marked the core, and since the latest that did, none made it loose
pub record MarkedSince (wide : Bool) (core : ℕ) (all : List Event) : Type 0 where
  pub earlier : List Event
  pub later : List Event
  pub split : all ≡ earlier ++ marked core ∷ later
  pub untouched : Untouched wide core later
