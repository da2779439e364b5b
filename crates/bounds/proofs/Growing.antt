-- The recurrences grow with the list in the place of the deadlines: larger lengths see more releases. So with smaller
-- lengths there is a solution no later.
use Rattle.std.proofs.Common.{◌≡◌, ℕ, ◌+◌, ◌*◌, ◌<◌, ◌≤◌, min, true, List, Some, None, sym, ◌∙◌, subst, le_refl, mul-le-mul_right, arith}
use Rattle.bounds.specs.Adding.{over_le, releases_rise}
use Rattle.bounds.specs.Rises.{contention_le, lesser_rising, min_le_min}
use Rattle.bounds.specs.Bounds.{ahead_bound}
use Rattle.bounds.specs.Demand.{core, cost, deadline, execution, period, releases, stress, total_sensitivity, total_stress}
use Rattle.bounds.specs.Rules.{lesser_rule}
use Rattle.least.proofs.Smaller.{descends}
use Rattle.least.proofs.Solutions.{solution_least}
use Rattle.least.specs.Least.{Least, Unsolved, solution}
use Rattle.std.proofs.lemmas.Option.{MatchOption-at_none, MatchOption-at_some}
use Rattle.std.proofs.lemmas.Bool.{cond-true}
use Rattle.table.proofs.Places.{on_board_from, on_core_is, on_core_task}
use Rattle.table.specs.Rows.{on_board, on_core}
use Rattle.table.specs.Sets.{Set}
use Rattle.table.specs.declared.board.Board.{Board}
use Rattle.table.specs.declared.row.Row.{Row}

-- no larger for the tasks of the board
abbrev pub NoLarger : Board → List Row → (ℕ → ℕ) → (ℕ → ℕ) → Type 0
NoLarger board rows a b = (j : ℕ) → on_board board rows j ≡ true → a j ≤ b j

module _ (board : Board) (rows : List Row) (a b : ℕ → ℕ) (le : NoLarger board rows a b) where
  stress_grows : (r y t : ℕ) → y < board.cores → total_stress rows a r y t ≤ total_stress rows b r y t
  unfolding total_stress
  stress_grows r y t l =
      over_le (on_core rows y) (λ j. releases (t + a j) (period rows j) * stress rows r j) (λ j. releases (t + b j) (period rows j) * stress rows r j) (λ j on.
      let there : on_board board rows j ≡ true = on_board_from board rows j (on_core_task rows y j on) (subst (λ c. c < board.cores) (sym (on_core_is rows y j on)) l) in
      mul-le-mul_right (stress rows r j) (releases_rise (t + a j) (t + b j) (period rows j) (omega (arith, le j there))))

  pub rule_grows : (i : ℕ) (set : Set) (t : ℕ) → lesser_rule a board rows i set t ≤ lesser_rule b board rows i set t
  rule_grows i set t =
      omega (
        arith,
        contention_le board (core rows i) (λ r y. min (total_stress rows a r y t) (total_sensitivity rows i set r t)) (λ r y. min (total_stress rows b r y t) (total_sensitivity rows i set r t))
            (λ r y l. min_le_min _ _ _ _ (stress_grows r y t l) (le_refl _)),
      )

-- a recurrence is at least the execution time
pub rule_cost : (board : Board) (rows : List Row) (ahead : ℕ → ℕ) (i : ℕ) (set : Set) (t : ℕ) → cost rows i ≤ lesser_rule ahead board rows i set t
unfolding execution
rule_cost board rows ahead i set t = omega arith

module _ (board : Board) (rows : List Row) (a : ℕ → ℕ) (i : ℕ) (set : Set) (on : on_board board rows i ≡ true) where
  bound_solution : ahead_bound a board rows i set ≡ solution (lesser_rule a board rows i set) (deadline rows i)
  unfolding ahead_bound
  bound_solution = cond-true _ _ _ on

  -- what a bound is
  pub some_least : (t : ℕ) → ahead_bound a board rows i set ≡ Some t → Least (lesser_rule a board rows i set) (deadline rows i) t
  some_least t e = MatchOption-at_some (Unsolved (lesser_rule a board rows i set) (deadline rows i)) (Least (lesser_rule a board rows i set) (deadline rows i)) t (sym bound_solution ∙ e) (solution_least (lesser_rule a board rows i set) (deadline rows i))

  pub none_unsolved : ahead_bound a board rows i set ≡ None → Unsolved (lesser_rule a board rows i set) (deadline rows i)
  none_unsolved e = MatchOption-at_none (Unsolved (lesser_rule a board rows i set) (deadline rows i)) (Least (lesser_rule a board rows i set) (deadline rows i)) (sym bound_solution ∙ e) (solution_least (lesser_rule a board rows i set) (deadline rows i))

  -- where larger lengths have a solution, these have one at or below it
  pub solved_below : (b : ℕ → ℕ) → NoLarger board rows a b → (t : ℕ) → 1 ≤ t → lesser_rule b board rows i set t ≡ t → (s : ℕ) × (1 ≤ s) × (s ≤ t) × (lesser_rule a board rows i set s ≡ s)
  solved_below b le t one e =
      descends (lesser_rule a board rows i set) (lesser_rising board rows i set a on) t t (le_refl t) one (omega (arith, rule_grows board rows a b le i set t, e))
