-- With fewer tasks above, each sum has fewer terms, so no rule grows; what others inflict does not depend on the set.
use Rattle.std.specs.Prelude.{ℕ, ◌*◌, ◌≤◌, min, not, ◌&&◌, List, ◌==◌}
use Rattle.bounds.specs.Adding.{over_fewer}
use Rattle.bounds.specs.Rises.{contention_le, min_le_min}
use Rattle.bounds.specs.Demand.{above, core, cost, execution, period, releases, sensitivity, total_sensitivity, total_stress}
use Rattle.bounds.specs.Rules.{composable_rule, lesser_rule}
use Rattle.std.proofs.lemmas.Bool.{and_from, and_parts}
use Rattle.table.specs.Rows.{on_core}
use Rattle.table.specs.Sets.{Set, Within}
use Rattle.table.specs.declared.board.Board.{Board}
use Rattle.table.specs.declared.row.Row.{Row}
use Rattle.std.proofs.Common.{le_refl, arith}

module _ (board : Board) (rows : List Row) (i : ℕ) (fewer set : Set) (within : Within fewer set) where
  above_fewer : Within (above rows i fewer) (above rows i set)
  unfolding above
  above_fewer j e =
      let p = and_parts (fewer j && not (j == i)) (on_core rows (core rows i) j) e in
      let q = and_parts (fewer j) (not (j == i)) p.0 in
      and_from _ _ (and_from _ _ (within j q.0) q.1) p.1

  execution_fewer : (t : ℕ) → execution rows i fewer t ≤ execution rows i set t
  unfolding execution
  execution_fewer t = omega (arith, over_fewer (above rows i set) (above rows i fewer) (λ j. releases t (period rows j) * cost rows j) above_fewer)

  sensitivity_fewer : (r t : ℕ) → total_sensitivity rows i fewer r t ≤ total_sensitivity rows i set r t
  unfolding total_sensitivity
  sensitivity_fewer r t = omega (arith, over_fewer (above rows i set) (above rows i fewer) (λ j. releases t (period rows j) * sensitivity rows r j) above_fewer)

  pub lesser_fewer : (ahead : ℕ → ℕ) (t : ℕ) → lesser_rule ahead board rows i fewer t ≤ lesser_rule ahead board rows i set t
  lesser_fewer ahead t =
      omega (
        arith,
        execution_fewer t,
        contention_le board (core rows i) (λ r y. min (total_stress rows ahead r y t) (total_sensitivity rows i fewer r t)) (λ r y. min (total_stress rows ahead r y t) (total_sensitivity rows i set r t))
            (λ r y _. min_le_min _ _ _ _ (le_refl _) (sensitivity_fewer r t)),
      )

  pub composable_fewer : (t : ℕ) → composable_rule board rows i fewer t ≤ composable_rule board rows i set t
  composable_fewer t =
      omega (
        arith,
        execution_fewer t,
        contention_le board (core rows i) (λ r _. total_sensitivity rows i fewer r t) (λ r _. total_sensitivity rows i set r t) (λ r _ _. sensitivity_fewer r t),
      )
