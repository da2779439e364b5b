-- The laws of the two tests, from those of their rules.
use Rattle.std.specs.Prelude.{◌≡◌, ℕ, true, false, List, Option, refl}
use Rattle.bounds.specs.Agreeing.{composable_alike, composable_set, lesser_alike, lesser_set}
use Rattle.bounds.specs.Fewer.{composable_fewer, lesser_fewer}
use Rattle.bounds.specs.Lawful.{RuleLaws, laws_from, told_least}
use Rattle.bounds.specs.Rises.{composable_rising, lesser_rising}
use Rattle.bounds.specs.Bounds.{BoundsLeast, ahead_bound, composable_bound, deadline_bound}
use Rattle.bounds.specs.Demand.{deadline}
use Rattle.bounds.specs.Rules.{composable_rule, deadline_rule, lesser_rule}
use Rattle.std.proofs.lemmas.Bool.{true≢false}
use Rattle.table.specs.Sets.{Set}
use Rattle.table.specs.Tests.{Laws}
use Rattle.table.specs.declared.board.Board.{Board}
use Rattle.table.specs.declared.row.Figures.{Figures}
use Rattle.table.specs.declared.row.Row.{Row}
use Rattle.std.proofs.Common.{ap}

composable_rules : RuleLaws false composable_rule
composable_rules = record {
  rising = composable_rising;
  through_above = λ board rows i G H same. composable_set rows i G H same board;
  fewer = composable_fewer;
  alike = λ board rows other x i set on all. composable_alike rows other x i on (all x) board set;
  own = λ _ board rows other x i set on alike. composable_alike rows other x i on alike board set;
}

deadline_rules : RuleLaws true deadline_rule
deadline_rules = record {
  rising = λ board rows i set on. lesser_rising board rows i set (deadline rows) on;
  through_above = λ board rows i G H same. lesser_set rows i G H same board (deadline rows);
  fewer = λ board rows i G H within. lesser_fewer board rows i G H within (deadline rows);
  alike = λ board rows other x i set on all. lesser_alike rows other x i on (all x) board set (deadline rows) (deadline other) all (λ y j there. ap (λ (f : Figures). f.deadline) ((all y j).1 there));
  own = λ narrow. absurd (true≢false narrow);
}

-- with any fixed lengths in the place of the deadlines
lesser_rules : (ahead : ℕ → ℕ) → RuleLaws true (lesser_rule ahead)
lesser_rules ahead = record {
  rising = λ board rows i set on. lesser_rising board rows i set ahead on;
  through_above = λ board rows i G H same. lesser_set rows i G H same board ahead;
  fewer = λ board rows i G H within. lesser_fewer board rows i G H within ahead;
  alike = λ board rows other x i set on all. lesser_alike rows other x i on (all x) board set ahead ahead all (λ y j there. refl);
  own = λ narrow. absurd (true≢false narrow);
}

pub composable_laws : Laws false composable_bound
unfolding composable_bound
composable_laws = laws_from composable_rule false composable_rules

pub deadline_laws : Laws true deadline_bound
unfolding deadline_bound
deadline_laws = laws_from deadline_rule true deadline_rules

pub ahead_laws : (ahead : ℕ → ℕ) → Laws true (ahead_bound ahead)
unfolding ahead_bound
ahead_laws ahead = laws_from (lesser_rule ahead) true (lesser_rules ahead)

-- what the tests answer is the least solution of their rules

pub composable_least : (board : Board) (rows : List Row) (i : ℕ) (set : Set) (answer : Option ℕ) → answer ≡ composable_bound board rows i set → BoundsLeast composable_rule board rows i set answer
unfolding composable_bound
composable_least = told_least composable_rule

pub deadline_least : (board : Board) (rows : List Row) (i : ℕ) (set : Set) (answer : Option ℕ) → answer ≡ deadline_bound board rows i set → BoundsLeast deadline_rule board rows i set answer
unfolding deadline_bound
deadline_least = told_least deadline_rule
