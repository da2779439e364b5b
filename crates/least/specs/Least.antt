-- Recurrences rule t = t over whole numbers: what a least solution is, and the one that a limit allows.
-- Every bound of the analyser is such a solution.
use Rattle.std.specs.Prelude.{◌≡◌, ℕ, zero, suc, ◌≤◌, cond, Some, None, Option, MatchOption, ◌==◌, ◌≢◌}

-- a rule that never falls, and does not begin at 0
pub record Rising (rule : ℕ → ℕ) : Type 0 where
  pub rises : (s t : ℕ) → s ≤ t → rule s ≤ rule t
  pub starts : 1 ≤ rule 1

-- t is the smallest whole number from 1 to the limit that solves the recurrence
pub record Least (rule : ℕ → ℕ) (limit t : ℕ) : Type 0 where
  pub low : 1 ≤ t
  pub high : t ≤ limit
  pub solves : rule t ≡ t
  pub first : (s : ℕ) → 1 ≤ s → rule s ≡ s → t ≤ s

-- no whole number from 1 to the limit solves it
abbrev pub Unsolved : (ℕ → ℕ) → ℕ → Type 0
Unsolved rule limit = (s : ℕ) → 1 ≤ s → s ≤ limit → rule s ≢ s

-- an answer says the smallest solution, and none exactly when there is none
abbrev pub AnswersLeast : (ℕ → ℕ) → ℕ → Option ℕ → Type 0
AnswersLeast rule limit answer = MatchOption answer (Unsolved rule limit) (Least rule limit)

-- no solution lies below t
abbrev pub NoSolutionBelow : (ℕ → ℕ) → ℕ → Type 0
NoSolutionBelow rule t = (s : ℕ) → 1 ≤ s → rule s ≡ s → t ≤ s

-- the first solution among the n numbers from a on
unfoldable pub first_from : (ℕ → ℕ) → ℕ → ℕ → Option ℕ
first_from rule a zero = None
first_from rule a (suc n) = cond (rule a == a) (Some a) (first_from rule (suc a) n)

-- the first solution from 1 to the limit, or none
unfoldable pub solution : (ℕ → ℕ) → ℕ → Option ℕ
solution rule limit = first_from rule 1 limit
