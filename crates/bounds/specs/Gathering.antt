-- Which tasks a list of loads stands for: whatever is summed over the loads is summed over those tasks.
use Rattle.std.specs.Prelude.{◌≡◌, ℕ, Bool, true, false, cond, List, sum_by, Option, MatchOption}
use Rattle.bounds.specs.declared.load.Load.{Load}
use Rattle.bounds.specs.Sums.{sum_to}
use Rattle.table.specs.Sets.{Set}
use Rattle.table.specs.declared.row.Row.{Row}

-- a load's numbers
pub record Form : Type 0 where
  pub core : ℕ
  pub period : ℕ
  pub ahead : ℕ
  pub cost : ℕ
  pub weight : List ℕ

abbrev pub form : Load → Form
form x = record { core = x.core; period = x.period; ahead = x.ahead.length; cost = x.cost; weight = x.weight }

-- how a row's task weighs on a lower one of its core
abbrev pub higher_form : Row → Form
higher_form row = record { core = row.core; period = row.figures.period; ahead = 0; cost = row.figures.cost; weight = row.figures.sensitivity }

-- how it weighs on the tasks of other cores, its releases counted from `ahead` before the window
abbrev pub rival_form : ℕ → Row → Form
rival_form ahead row = record { core = row.core; period = row.figures.period; ahead = ahead; cost = 0; weight = row.figures.stress }

-- a load of that form exactly if it is picked
abbrev pub Picked : Bool → Form → Option Load → Type 0
Picked pick x answer = MatchOption answer (pick ≡ false) (λ load. (pick ≡ true) × (form load ≡ x))

-- the loads are those of the picked numbers below n
abbrev pub Gathers : Set → (ℕ → Form) → ℕ → List Load → Type 0
Gathers pick forms n loads = (f : Form → ℕ) → sum_by (λ x. f (form x)) loads ≡ sum_to n (λ j. cond (pick j) (f (forms j)) 0)
