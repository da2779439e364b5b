-- Rules agree on lists that are alike: on the own core that is enough for what is executed and suffered, and on every
-- core for what is inflicted. They agree on sets with the same members above.
use Rattle.std.specs.Prelude.{◌≡◌, ℕ, ◌+◌, ◌*◌, min, true, false, not, ◌&&◌, List, ◌==◌, ◌≢◌, slice_index}
use Rattle.bounds.specs.Adding.{over_same}
use Rattle.bounds.specs.Demand.{above, core, cost, execution, period, releases, sensitivity, stress, total_sensitivity, total_stress}
use Rattle.bounds.specs.Rules.{composable_rule, contention, lesser_rule}
use Rattle.bounds.specs.Sums.{sum_over}
use Rattle.std.proofs.lemmas.Bool.{and_parts, cases_Bool, cases_eq, eq-eqb}
use Rattle.table.proofs.Places.{on_core_is}
use Rattle.table.proofs.Plains.{Alike}
use Rattle.table.specs.Rows.{on_core, row_at}
use Rattle.table.specs.Sets.{Set}
use Rattle.table.specs.declared.board.Board.{Board}
use Rattle.table.specs.declared.row.Figures.{Figures}
use Rattle.table.specs.declared.row.Row.{Row}
use Rattle.std.proofs.Common.{inl, inr, ◌∙◌, sym}
use Rattle.std.proofs.Math.Bool.{and-false}
use Rattle.std.proofs.Math.Path.{ap, fun_ext}

pub contention_same : (board : Board) (x : ℕ) (f g : ℕ → ℕ → ℕ) → ((r y : ℕ) → f r y ≡ g r y) → contention board x f ≡ contention board x g
contention_same board x f g h = ap (contention board x) (fun_ext (λ r. fun_ext (λ y. h r y)))

-- what core y can inflict, where the lengths agree on its tasks
pub stress_alike : (rows other : List Row) (ahead ahead' : ℕ → ℕ) (r y t : ℕ) → Alike y rows other → ((j : ℕ) → on_core rows y j ≡ true → ahead j ≡ ahead' j) → total_stress rows ahead r y t ≡ total_stress other ahead' r y t
unfolding total_stress
stress_alike rows other ahead ahead' r y t alike same =
    over_same (on_core rows y) (on_core other y) _ _ (λ j. (alike j).0) (λ j on.
    ap (λ a. releases (t + a) (period rows j) * stress rows r j) (same j on)
    ∙ ap (λ (f : Figures). releases (t + ahead' j) f.period * slice_index f.stress r) ((alike j).1 on))

module _ (rows other : List Row) (x i : ℕ) (on : on_core rows x i ≡ true) (alike : Alike x rows other) where
  on_other : on_core other x i ≡ true
  on_other = sym (alike i).0 ∙ on

  pub core_alike : core rows i ≡ core other i
  core_alike = on_core_is rows x i on ∙ sym (on_core_is other x i on_other)

  pub figures_alike : (row_at rows i).figures ≡ (row_at other i).figures
  figures_alike = (alike i).1 on

  above_alike : (set : Set) (j : ℕ) → above rows i set j ≡ above other i set j
  unfolding above
  above_alike set j =
      ap (λ c. (set j && not (j == i)) && on_core rows c j) (on_core_is rows x i on)
      ∙ ap (λ b. (set j && not (j == i)) && b) (alike j).0
      ∙ ap (λ c. (set j && not (j == i)) && on_core other c j) (sym (on_core_is other x i on_other))

  above_on : (set : Set) (j : ℕ) → above rows i set j ≡ true → on_core rows x j ≡ true
  unfolding above
  above_on set j e = ap (λ c. on_core rows c j) (sym (on_core_is rows x i on)) ∙ (and_parts (set j && not (j == i)) (on_core rows (core rows i) j) e).1

  -- any sum over the tasks above, by their figures
  over_alike : (set : Set) (f : Figures → ℕ) → sum_over (above rows i set) (λ j. f (row_at rows j).figures) ≡ sum_over (above other i set) (λ j. f (row_at other j).figures)
  over_alike set f = over_same (above rows i set) (above other i set) _ _ (above_alike set) (λ j e. ap f ((alike j).1 (above_on set j e)))

  execution_alike : (set : Set) (t : ℕ) → execution rows i set t ≡ execution other i set t
  unfolding execution
  execution_alike set t =
      ap (λ (f : Figures). f.cost + sum_over (above rows i set) (λ j. releases t (period rows j) * cost rows j)) figures_alike
      ∙ ap (λ n. cost other i + n) (over_alike set (λ f. releases t f.period * f.cost))

  sensitivity_alike : (set : Set) (r t : ℕ) → total_sensitivity rows i set r t ≡ total_sensitivity other i set r t
  unfolding total_sensitivity
  sensitivity_alike set r t =
      ap (λ (f : Figures). slice_index f.sensitivity r + sum_over (above rows i set) (λ j. releases t (period rows j) * sensitivity rows r j)) figures_alike
      ∙ ap (λ n. sensitivity other r i + n) (over_alike set (λ f. releases t f.period * slice_index f.sensitivity r))

  pub composable_alike : (board : Board) (set : Set) (t : ℕ) → composable_rule board rows i set t ≡ composable_rule board other i set t
  composable_alike board set t =
      ap (λ n. n + contention board (core rows i) (λ r _. total_sensitivity rows i set r t)) (execution_alike set t)
      ∙ ap (λ c. execution other i set t + contention board c (λ r _. total_sensitivity rows i set r t)) core_alike
      ∙ ap (λ n. execution other i set t + n) (contention_same board (core other i) _ _ (λ r _. sensitivity_alike set r t))

  pub lesser_alike : (board : Board) (set : Set) (ahead ahead' : ℕ → ℕ) → ((y : ℕ) → Alike y rows other) → ((y j : ℕ) → on_core rows y j ≡ true → ahead j ≡ ahead' j) → (t : ℕ) → lesser_rule ahead board rows i set t ≡ lesser_rule ahead' board other i set t
  lesser_alike board set ahead ahead' all same t =
      ap (λ n. n + contention board (core rows i) (λ r y. min (total_stress rows ahead r y t) (total_sensitivity rows i set r t))) (execution_alike set t)
      ∙ ap (λ c. execution other i set t + contention board c (λ r y. min (total_stress rows ahead r y t) (total_sensitivity rows i set r t))) core_alike
      ∙ ap (λ n. execution other i set t + n) (contention_same board (core other i) _ _ (λ r y.
      ap (λ a. min a (total_sensitivity rows i set r t)) (stress_alike rows other ahead ahead' r y t (all y) (same y))
      ∙ ap (λ b. min (total_stress other ahead' r y t) b) (sensitivity_alike set r t)))

-- sets that agree on the other tasks of i's core have the same members above

pub above_same : (rows : List Row) (i : ℕ) (G H : Set) → ((j : ℕ) → (j ≢ i) → on_core rows (core rows i) j ≡ true → G j ≡ H j) → above rows i G ≡ above rows i H
unfolding above
above_same rows i G H agree = fun_ext go
  where
    left : (j : ℕ) → j ≡ i → (set : Set) → ((set j && not (j == i)) && on_core rows (core rows i) j) ≡ false
    left j same set = ap (λ b. (set j && not b) && on_core rows (core rows i) j) (eq-eqb j i same) ∙ ap (λ b. b && on_core rows (core rows i) j) (and-false (set j))

    right : (j : ℕ) → on_core rows (core rows i) j ≡ false → (set : Set) → ((set j && not (j == i)) && on_core rows (core rows i) j) ≡ false
    right j off set = ap (λ b. (set j && not (j == i)) && b) off ∙ and-false (set j && not (j == i))

    go : (j : ℕ) → ((G j && not (j == i)) && on_core rows (core rows i) j) ≡ ((H j && not (j == i)) && on_core rows (core rows i) j)
    go j =
        elim (cases_eq j i) [
          | inl same ↦ left j same G ∙ sym (left j same H)
          | inr other ↦ elim (cases_Bool (on_core rows (core rows i) j)) [
            | inl on ↦ ap (λ b. (b && not (j == i)) && on_core rows (core rows i) j) (agree j other on)
            | inr off ↦ right j off G ∙ sym (right j off H)
          ]
        ]

module _ (rows : List Row) (i : ℕ) (G H : Set) (same : above rows i G ≡ above rows i H) where
  execution_set : (t : ℕ) → execution rows i G t ≡ execution rows i H t
  unfolding execution
  execution_set t = ap (λ A. cost rows i + sum_over A (λ j. releases t (period rows j) * cost rows j)) same

  sensitivity_set : (r t : ℕ) → total_sensitivity rows i G r t ≡ total_sensitivity rows i H r t
  unfolding total_sensitivity
  sensitivity_set r t = ap (λ A. sensitivity rows r i + sum_over A (λ j. releases t (period rows j) * sensitivity rows r j)) same

  pub composable_set : (board : Board) (t : ℕ) → composable_rule board rows i G t ≡ composable_rule board rows i H t
  composable_set board t =
      ap (λ n. n + contention board (core rows i) (λ r _. total_sensitivity rows i G r t)) (execution_set t)
      ∙ ap (λ n. execution rows i H t + n) (contention_same board (core rows i) _ _ (λ r _. sensitivity_set r t))

  pub lesser_set : (board : Board) (ahead : ℕ → ℕ) (t : ℕ) → lesser_rule ahead board rows i G t ≡ lesser_rule ahead board rows i H t
  lesser_set board ahead t =
      ap (λ n. n + contention board (core rows i) (λ r y. min (total_stress rows ahead r y t) (total_sensitivity rows i G r t))) (execution_set t)
      ∙ ap (λ n. execution rows i H t + n) (contention_same board (core rows i) _ _ (λ r y. ap (λ b. min (total_stress rows ahead r y t) b) (sensitivity_set r t)))
