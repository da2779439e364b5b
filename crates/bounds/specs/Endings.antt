-- In which round the response test ends, and why.
use Rattle.std.specs.Prelude.{◌≡◌, ℕ, zero, suc, ◌+◌, ◌<◌, List, Some, None, Ok, Err, Option, Result, MatchResult, ◌≢◌}
use Rattle.bounds.specs.Rounds.{Answer, bound_after, round_after, start}
use Rattle.table.specs.declared.board.Board.{Board}
use Rattle.table.specs.declared.row.Row.{Row}

abbrev pub list_in : Result (List ℕ) ℕ → Option (List ℕ)
list_in (Ok list) = Some list
list_in (Err i) = None

abbrev pub next_list : Board → List Row → Option (List ℕ) → Option (List ℕ)
next_list board rows (Some list) = list_in (round_after board rows list)
next_list board rows None = None

-- the list of round n, that of round 0 being the start; none once a task has had no bound
unfoldable pub list_of : Board → List Row → ℕ → Option (List ℕ)
list_of board rows zero = Some (start board rows)
list_of board rows (suc n) = next_list board rows (list_of board rows n)

-- each of the first n rounds changes something
abbrev pub Moving : Board → List Row → ℕ → Type 0
Moving board rows n = (k : ℕ) → k < n → list_of board rows (k + 1) ≢ list_of board rows k

-- round k is the first that equals the list before it
pub record SettledIn (board : Board) (rows : List Row) (k : ℕ) (list : List ℕ) : Type 0 where
  pub before : ℕ
  pub counted : k ≡ before + 1
  pub old : list_of board rows before ≡ Some list
  pub new : list_of board rows k ≡ Some list
  pub moving : Moving board rows before

-- round k is the first with a task without a bound, i is the smallest such, and no round before it changed nothing
pub record RefusedIn (board : Board) (rows : List Row) (i k : ℕ) : Type 0 where
  pub before : ℕ
  pub counted : k ≡ before + 1
  pub last : List ℕ
  pub old : list_of board rows before ≡ Some last
  pub unbounded : bound_after board rows last i ≡ None
  pub smallest : (j : ℕ) → j < i → bound_after board rows last j ≢ None
  pub moving : Moving board rows before

abbrev pub Ends : Board → List Row → Answer → Type 0
Ends board rows r = MatchResult r (λ s. SettledIn board rows s.round s.bounds) (λ u. RefusedIn board rows u.task u.round)
