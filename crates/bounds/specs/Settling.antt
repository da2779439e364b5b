-- Settling into a list that the caller lends: the answer, and the list afterwards.
use Rattle.std.specs.Prelude.{◌≡◌, ℕ, ◌<◌, ◌≤◌, cond, List, ◌++◌, length, take, drop, Ok, Err, Result, MatchResult, nat_lt}
use Rattle.bounds.specs.Rounds.{Answer, settled}
use Rattle.bounds.specs.Solutions.{JointSolution, LeastJoint}
use Rattle.bounds.specs.declared.response.Unsettled.TheVariants.{NoBound, TooShort}
use Rattle.bounds.specs.declared.response.Unsettled.{Unsettled}
use Rattle.table.specs.Rows.{capacity}
use Rattle.table.specs.declared.board.Board.{Board}
use Rattle.table.specs.declared.refusal.Refusal.TheVariants as refusal
use Rattle.table.specs.declared.refusal.Refusal.{Refusal}
use Rattle.table.specs.declared.row.Row.{Row}

-- the refusal that it is
abbrev pub refusal_of : Unsettled → Refusal
refusal_of TooShort = refusal.BufferTooShort
refusal_of (NoBound u) = refusal.NoBound

-- the round, or why it is refused
abbrev pub told_round : Answer → Result ℕ Unsettled
told_round (Ok s) = Ok s.round
told_round (Err u) = Err (NoBound u)

-- the first n numbers of the list found, and what was behind them; on refusal, what was there
abbrev pub put : ℕ → List ℕ → Answer → List ℕ
put n buffer (Ok s) = take n s.bounds ++ drop n buffer
put n buffer (Err u) = buffer

-- want of room comes first
abbrev pub settle_answer : Board → List Row → ℕ → Result ℕ Unsettled
settle_answer board rows room = cond (nat_lt room (capacity rows)) (Err TooShort) (told_round (settled board rows))

abbrev pub after_settle : Board → List Row → List ℕ → List ℕ
after_settle board rows buffer = cond (nat_lt (length buffer) (capacity rows)) buffer (put (capacity rows) buffer (settled board rows))

-- why a call is refused
abbrev pub Because : Board → List Row → ℕ → Unsettled → Type 0
Because board rows room TooShort = room < capacity rows
Because board rows room (NoBound u) = (capacity rows ≤ room) × ((other : List ℕ) → JointSolution board rows other → ⊥)

-- in words: the numbers of the least list are written, and nothing on refusal
abbrev pub SettlesInto : Board → List Row → List ℕ → Result ℕ Unsettled → List ℕ → Type 0
SettlesInto board rows buffer r after =
    MatchResult r
    (λ _. (list : List ℕ) × LeastJoint board rows list × (after ≡ take (capacity rows) list ++ drop (capacity rows) buffer))
    (λ why. (after ≡ buffer) × Because board rows (length buffer) why)
