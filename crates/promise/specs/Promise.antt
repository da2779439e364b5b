-- What a run of calls on a fresh sheet promises, by one test: after every front of the list, an ordering made now is
-- refused exactly when no order passes and else sets the first that does; a core that is marked standing is bounded, and
-- it is marked exactly as the accepted calls tell.
use Rattle.std.specs.Prelude.{◌≡◌, ℕ, ◌<◌, ◌≤◌, Bool, true, ◌↔◌, List, ◌++◌, length, take, drop, Some, None, Ok, Err, Option, Result}
use Rattle.ordering.specs.Orders.{Answers, FirstOrder, Impossible, Passes}
use Rattle.ordering.specs.Present.{PresentOrder}
use Rattle.promise.specs.Calls.{after, after_all, answer_to, answers_to, refusal_in}
use Rattle.promise.specs.History.{MarkedSince, events}
use Rattle.promise.specs.declared.call.Answer.{Answer}
use Rattle.promise.specs.declared.call.Call.TheVariants.{Judge, Order}
use Rattle.promise.specs.declared.call.Call.{Call}
use Rattle.sheet.specs.Formed.{WellFormed}
use Rattle.sheet.specs.Marks.{marked}
use Rattle.sheet.specs.Passing.{asked}
use Rattle.sheet.specs.State.{State, fresh}
use Rattle.sheet.specs.declared.marks.Mark.{Mark}
use Rattle.table.specs.Ranks.{higher_ranked}
use Rattle.table.specs.Refusals.{number_of}
use Rattle.table.specs.Rows.{on_core, row_at}
use Rattle.table.specs.Tests.{Meaning}
use Rattle.table.specs.declared.board.Board.{Board}
use Rattle.table.specs.declared.refusal.Refusal.TheVariants.{BufferTooShort}
use Rattle.table.specs.declared.refusal.Refusal.{Refusal}
use Rattle.table.specs.declared.row.Row.{Row}

-- a call is accepted, or refused with a number
abbrev pub Accepted : Answer → Type 0
Accepted a = refusal_in a ≡ None

abbrev pub numbered : Option Refusal → Option ℕ
numbered None = None
numbered (Some why) = Some (number_of why)

abbrev pub RefusedWith : Answer → ℕ → Type 0
RefusedWith a n = numbered (refusal_in a) ≡ Some n

-- a task has a bound with exactly the higher-ranked tasks of its core, from 1 to its deadline
pub record HasBound (ask : Answers) (rows : List Row) (i : ℕ) : Type 0 where
  pub bound : ℕ
  pub answered : ask i (higher_ranked rows i) ≡ Some bound
  pub from_one : 1 ≤ bound
  pub by_deadline : bound ≤ (row_at rows i).figures.deadline

-- each task of a core has one
abbrev pub AllBounded : Answers → List Row → ℕ → Type 0
AllBounded ask rows core = (i : ℕ) → on_core rows core i ≡ true → HasBound ask rows i

-- the core's present order, which passes and is earlier than every other order of its tasks that passes
pub record OrderedFirst (m : Meaning) (s : State) (core : ℕ) : Type 0 where
  pub order : List ℕ
  pub present : PresentOrder s.rows core order
  pub first : FirstOrder (asked m s) (on_core s.rows core) order

-- of a sheet as it is now, and one core of its board
pub record CoreHolds (m : Meaning) (wide : Bool) (s : State) (core : ℕ) : Type 0 where
  -- an ordering made now is refused, with 12, exactly when no order of the core's tasks passes
  pub refused_exactly : RefusedWith (answer_to m s (Order core)) 12 ↔ Impossible (asked m s) (on_core s.rows core)
  -- one that is not refused with 12 is accepted, and makes the first order that passes the present one
  pub sets_first : (RefusedWith (answer_to m s (Order core)) 12 → ⊥) → Accepted (answer_to m s (Order core)) × OrderedFirst m (after m wide s (Order core)) core
  -- the ranks put the core's tasks in an order
  pub has_order : (xs : List ℕ) × PresentOrder s.rows core xs
  -- a judging made now is accepted exactly when that order passes, and else refused with 13
  pub judged_exactly : (xs : List ℕ) → PresentOrder s.rows core xs → Accepted (answer_to m s (Judge core)) ↔ Passes (asked m s) xs
  pub judged_or_refused : (Accepted (answer_to m s (Judge core)) → ⊥) → RefusedWith (answer_to m s (Judge core)) 13
  -- where the core is marked standing, each of its tasks has a bound under the present ranks, on the present rows
  pub standing_bounded : marked s.marks core ≡ true → AllBounded (asked m s) s.rows core

-- of a sheet as it is now: its board is the one it was opened for, and its rows are well-formed
pub record SheetHolds (m : Meaning) (wide : Bool) (board : Board) (s : State) : Type 0 where
  pub same_board : s.board ≡ board
  pub cores : (core : ℕ) → core < board.cores → CoreHolds m wide s core
  pub well_formed : WellFormed board s.rows

-- every call was made
pub record Finished (m : Meaning) (wide : Bool) (board : Board) (rows : List Row) (calls : List Call) (told : List (Option Answer)) (rows' : List Row) (told' : List (Option Answer)) (marks : List Mark) : Type 0 where
  pub room : length calls ≤ length told
  -- answers, rows and marks are those of the calls, one after the other; answers past the list, and rows from place 64
  -- on, are as they were
  pub answers_are : told' ≡ answers_to m wide (fresh board rows) calls ++ drop (length calls) told
  pub rows_are : rows' ≡ (after_all m wide (fresh board rows) calls).rows
  pub marks_are : marks ≡ (after_all m wide (fresh board rows) calls).marks
  pub rows_long : length rows' ≡ length rows
  pub rows_past : drop 64 rows' ≡ drop 64 rows
  -- after the first p calls, whatever p is
  pub always : (p : ℕ) → SheetHolds m wide board (after_all m wide (fresh board rows) (take p calls))
  -- of the rows and marks as they are left
  pub at_end : SheetHolds m wide board (record { board = board; rows = rows'; marks = marks })
  -- after the first p calls a core is marked standing exactly when one of them that was accepted marked it, and since
  -- the latest that did, no accepted entry, withdrawal or amendment was on that core or, if the test is wide, on any
  pub marked_exactly : (p core : ℕ) → core < board.cores → (marked (after_all m wide (fresh board rows) (take p calls)).marks core ≡ true) ↔ MarkedSince wide core (events m wide (fresh board rows) (take p calls))

-- no call was made, since there is no room for the answers
pub record Unfinished (calls : List Call) (rows : List Row) (told : List (Option Answer)) (rows' : List Row) (told' : List (Option Answer)) (why : Refusal) : Type 0 where
  pub short : length told < length calls
  pub cause : why ≡ BufferTooShort
  pub rows_same : rows' ≡ rows
  pub told_same : told' ≡ told

abbrev pub Ran : Meaning → Bool → Board → List Row → List Call → List (Option Answer) → List Row → List (Option Answer) → Result (List Mark) Refusal → Type 0
Ran m wide board rows calls told rows' told' (Ok marks) = Finished m wide board rows calls told rows' told' marks
Ran m wide board rows calls told rows' told' (Err why) = Unfinished calls rows told rows' told' why
