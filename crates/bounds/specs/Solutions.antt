-- What the response test finds, without its rounds: the least numbers that solve all recurrences at once.
use Rattle.std.specs.Prelude.{◌≡◌, ℕ, ◌≤◌, true, false, List, length, MatchResult}
use Rattle.bounds.specs.Demand.{deadline}
use Rattle.bounds.specs.Lengths.{length_of}
use Rattle.bounds.specs.Rounds.{Answer}
use Rattle.bounds.specs.Rules.{lesser_rule}
use Rattle.table.specs.Ranks.{higher_ranked}
use Rattle.table.specs.Rows.{on_board}
use Rattle.table.specs.declared.board.Board.{Board}
use Rattle.table.specs.declared.row.Row.{Row}

-- the recurrence of task i under its rank, with a list in the place of the other cores' deadlines
abbrev pub recurrence : Board → List Row → List ℕ → ℕ → ℕ → ℕ
recurrence board rows list i = lesser_rule (length_of list) board rows i (higher_ranked rows i)

-- task i's number lies from 1 to its deadline and solves its recurrence with the list itself
pub record Solves (board : Board) (rows : List Row) (list : List ℕ) (i : ℕ) : Type 0 where
  pub low : 1 ≤ length_of list i
  pub high : length_of list i ≤ deadline rows i
  pub solves : recurrence board rows list i (length_of list i) ≡ length_of list i

-- so of every task of the board
abbrev pub JointSolution : Board → List Row → List ℕ → Type 0
JointSolution board rows list = (i : ℕ) → on_board board rows i ≡ true → Solves board rows list i

-- the least such list: no number of it is larger than in any other; 0 for what is no task
pub record LeastJoint (board : Board) (rows : List Row) (list : List ℕ) : Type 0 where
  pub size : length list ≡ 64
  pub solution : JointSolution board rows list
  pub least : (other : List ℕ) → JointSolution board rows other → (i : ℕ) → on_board board rows i ≡ true → length_of list i ≤ length_of other i
  pub empty : (i : ℕ) → on_board board rows i ≡ false → length_of list i ≡ 0

-- the answer is the least list, and it is refused exactly when there is none
abbrev pub SettlesLeast : Board → List Row → Answer → Type 0
SettlesLeast board rows r =
    MatchResult r (λ s. LeastJoint board rows s.bounds) (λ _. (other : List ℕ) → JointSolution board rows other → ⊥)
