-- No rule falls as the window grows: releases do not, and every rule is a sum of releases times figures, or of the
-- lesser of two such sums. A task's rule starts at its execution time or above, so at 1 or above.
use Rattle.std.specs.Prelude.{◌≡◌, ℕ, ◌+◌, ◌*◌, ◌<◌, ◌≤◌, min, true, List, ◌==◌}
use Rattle.bounds.specs.Adding.{but_le, over_le, releases_rise, sum_le}
use Rattle.bounds.specs.Demand.{above, core, cost, execution, period, releases, sensitivity, stress, total_sensitivity, total_stress}
use Rattle.bounds.specs.Rules.{composable_rule, contention, lesser_rule}
use Rattle.bounds.specs.Sums.{sum_over}
use Rattle.least.specs.Least.{Rising}
use Rattle.table.proofs.Limited.{limited}
use Rattle.table.proofs.Places.{on_board_task, task_limits}
use Rattle.table.specs.Rows.{on_board, on_core, row_at}
use Rattle.table.specs.Sets.{Set}
use Rattle.table.specs.declared.board.Board.{Board}
use Rattle.table.specs.declared.row.Row.{Row}
use Rattle.std.proofs.Math.Nat.{le-min, min-le_left, min-le_right}
use Rattle.std.proofs.Common.{le_trans, mul-le-mul_right, arith}

pub min_le_min : (a b c d : ℕ) → a ≤ c → b ≤ d → min a b ≤ min c d
min_le_min a b c d p q = le-min (le_trans (min-le_left a b) p) (le_trans (min-le_right a b) q)

-- smaller shares make less contention
pub contention_le : (board : Board) (x : ℕ) (f g : ℕ → ℕ → ℕ) → ((r y : ℕ) → y < board.cores → f r y ≤ g r y) → contention board x f ≤ contention board x g
unfolding contention
contention_le board x f g h = sum_le board.cores _ _ (λ y l. but_le (y == x) _ _ (sum_le board.resources _ _ (λ r _. h r y l)))

-- releases in windows that do not shrink, times a weight, over a set
weighted_rise : (set : Set) (short long periods weights : ℕ → ℕ) → ((j : ℕ) → short j ≤ long j) → sum_over set (λ j. releases (short j) (periods j) * weights j) ≤ sum_over set (λ j. releases (long j) (periods j) * weights j)
weighted_rise set short long periods weights h =
    over_le set (λ j. releases (short j) (periods j) * weights j) (λ j. releases (long j) (periods j) * weights j)
    (λ j _. mul-le-mul_right (weights j) (releases_rise (short j) (long j) (periods j) (h j)))

module _ (board : Board) (rows : List Row) (i : ℕ) (set : Set) where
  execution_rises : (s t : ℕ) → s ≤ t → execution rows i set s ≤ execution rows i set t
  unfolding execution
  execution_rises s t l = omega (arith, weighted_rise (above rows i set) (λ _. s) (λ _. t) (period rows) (cost rows) (λ _. l))

  sensitivity_rises : (r s t : ℕ) → s ≤ t → total_sensitivity rows i set r s ≤ total_sensitivity rows i set r t
  unfolding total_sensitivity
  sensitivity_rises r s t l = omega (arith, weighted_rise (above rows i set) (λ _. s) (λ _. t) (period rows) (sensitivity rows r) (λ _. l))

  stress_rises : (ahead : ℕ → ℕ) (r y s t : ℕ) → s ≤ t → total_stress rows ahead r y s ≤ total_stress rows ahead r y t
  unfolding total_stress
  stress_rises ahead r y s t l = weighted_rise (on_core rows y) (λ j. s + ahead j) (λ j. t + ahead j) (period rows) (stress rows r) (λ j. omega arith)

  execution_starts : on_board board rows i ≡ true → (t : ℕ) → 1 ≤ execution rows i set t
  unfolding execution
  execution_starts on t = omega (arith, (limited (row_at rows i).figures (task_limits rows i (on_board_task board rows i on))).cost_low)

  pub lesser_rising : (ahead : ℕ → ℕ) → on_board board rows i ≡ true → Rising (lesser_rule ahead board rows i set)
  lesser_rising ahead on = record {
    rises = λ s t l. omega (
      arith,
      execution_rises s t l,
      contention_le board (core rows i) (λ r y. min (total_stress rows ahead r y s) (total_sensitivity rows i set r s)) (λ r y. min (total_stress rows ahead r y t) (total_sensitivity rows i set r t))
          (λ r y _. min_le_min _ _ _ _ (stress_rises ahead r y s t l) (sensitivity_rises r s t l)),
    );
    starts = omega (arith, execution_starts on 1);
  }

  pub composable_rising : on_board board rows i ≡ true → Rising (composable_rule board rows i set)
  composable_rising on = record {
    rises = λ s t l. omega (
      arith,
      execution_rises s t l,
      contention_le board (core rows i) (λ r _. total_sensitivity rows i set r s) (λ r _. total_sensitivity rows i set r t) (λ r _ _. sensitivity_rises r s t l),
    );
    starts = omega (arith, execution_starts on 1);
  }
