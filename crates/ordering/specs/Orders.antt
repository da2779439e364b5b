-- Orders of a core's tasks: what one is, when it passes a test, and which of two is earlier.
use Rattle.std.specs.Prelude.{◌≡◌, ℕ, ◌<◌, true, false, ◌||◌, ◌⊎◌, List, [], ◌∷◌, is_some, Option, ◌==◌}
use Rattle.table.specs.Sets.{Set}

-- the numbers that a list names
abbrev pub named : List ℕ → Set
named [] k = false
named (x ∷ xs) k = k == x || named xs k

-- no number twice
abbrev pub Distinct : List ℕ → Type 0
Distinct [] = Unit {0}
Distinct (x ∷ xs) = (named xs x ≡ false) × Distinct xs

-- an order of some tasks: each of their numbers once, and no other, from the lowest place up
pub record OrderOf (tasks : Set) (xs : List ℕ) : Type 0 where
  pub once : Distinct xs
  pub each : (k : ℕ) → named xs k ≡ tasks k

-- what a test answers of one board and row list
abbrev pub Answers : Type 0
Answers = ℕ → Set → Option ℕ

-- an order passes when each task has a bound with exactly the tasks above it
abbrev pub Passes : Answers → List ℕ → Type 0
Passes ask [] = Unit {0}
Passes ask (x ∷ xs) = (is_some (ask x (named xs)) ≡ true) × Passes ask xs

-- earlier: the smaller number at the lowest place where the two differ
abbrev pub Earlier : List ℕ → List ℕ → Type 0
Earlier [] ys = ⊥
Earlier (x ∷ xs) [] = ⊥
Earlier (x ∷ xs) (y ∷ ys) = (x < y) ⊎ ((x ≡ y) × Earlier xs ys)

-- no order of the tasks passes
abbrev pub Impossible : Answers → Set → Type 0
Impossible ask tasks = (ys : List ℕ) → OrderOf tasks ys → Passes ask ys → ⊥

-- an order of the tasks that passes, and is earlier than every other that does
pub record FirstOrder (ask : Answers) (tasks : Set) (xs : List ℕ) : Type 0 where
  pub order : OrderOf tasks xs
  pub passes : Passes ask xs
  pub first : (ys : List ℕ) → OrderOf tasks ys → Passes ask ys → (ys ≡ xs) ⊎ Earlier xs ys
