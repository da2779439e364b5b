-- Two row lists with the same tasks on a core, in rows that are the same: whoever looks at that core alone sees no
-- difference. The tasks above one are the same, and so are the rows that an own-core test may look at. A row written in a
-- place that held no task of the core and holds none then makes such a list, and so do ranks written on another core.
use Rattle.std.proofs.Common.{◌≡◌, ℕ, true, false, cond, ◌&&◌, eqb, ltb, List, map, length, set, is_some, sym, ap, ◌∙◌, ⊎_elim}
use Rattle.ordering.proofs.Reranks.{core_kept, outside}
use Rattle.ordering.specs.Orders.{Answers, OrderOf}
use Rattle.ordering.specs.Present.{Bounded}
use Rattle.ordering.specs.Writing.{written}
use Rattle.std.proofs.lemmas.List.{get_or-set_other}
use Rattle.std.proofs.lemmas.Bool.{and_left, both_ways, cases_Bool, cases_eq, cond-false}
use Rattle.std.specs.List.{range_with_len}
use Rattle.table.proofs.Places.{on_core_is, other_core}
use Rattle.table.specs.Ranks.{higher_ranked}
use Rattle.table.specs.Rows.{empty_row, holds_task, is_task, on_core, own_rows, past, plain_row, row_at}
use Rattle.table.specs.Sets.{Set}
use Rattle.table.specs.declared.row.Row.{Row}
use mathlib.Core.Path.{fun_ext}

pub record SameOn (k : ℕ) (rows new : List Row) : Type 0 where
  pub tasks : (j : ℕ) → on_core new k j ≡ on_core rows k j
  pub row : (j : ℕ) → on_core new k j ≡ true → row_at new j ≡ row_at rows j

module _ (k : ℕ) (rows new : List Row) (same : SameOn k rows new) where
  -- whether j is a task of the core with a rank above r
  ranked_same : (r j : ℕ) → (on_core new k j && ltb (row_at new j).rank r) ≡ (on_core rows k j && ltb (row_at rows j).rank r)
  ranked_same r j =
      ap (λ b. b && ltb (row_at new j).rank r) (same.tasks j)
      ∙ ⊎_elim
      (λ on. ap (λ (z : Row). on_core rows k j && ltb z.rank r) (same.row j (same.tasks j ∙ on)))
      (λ off. and_left (on_core rows k j) (ltb (row_at new j).rank r) off ∙ sym (and_left (on_core rows k j) (ltb (row_at rows j).rank r) off))
      (cases_Bool (on_core rows k j))

  higher_same : (i : ℕ) → on_core new k i ≡ true → higher_ranked new i ≡ higher_ranked rows i
  unfolding higher_ranked
  higher_same i on =
      let core : (row_at new i).core ≡ k = on_core_is new k i on in
      fun_ext (λ j.
      ap (λ c. on_core new c j && ltb (row_at new j).rank (row_at new i).rank) core
      ∙ ranked_same (row_at new i).rank j
      ∙ ap (λ (z : Row). on_core rows k j && ltb (row_at rows j).rank z.rank) (same.row i on)
      ∙ ap (λ c. on_core rows c j && ltb (row_at rows j).rank (row_at rows i).rank) (sym core ∙ ap (λ (z : Row). z.core) (same.row i on)))

  own_at_same : (j : ℕ) → cond (on_core new k j) (plain_row (row_at new j)) empty_row ≡ cond (on_core rows k j) (plain_row (row_at rows j)) empty_row
  own_at_same j =
      ap (λ b. cond b (plain_row (row_at new j)) empty_row) (same.tasks j)
      ∙ ⊎_elim
      (λ on. ap (λ z. cond (on_core rows k j) (plain_row z) empty_row) (same.row j (same.tasks j ∙ on)))
      (λ off. cond-false (on_core rows k j) (plain_row (row_at new j)) empty_row off ∙ sym (cond-false (on_core rows k j) (plain_row (row_at rows j)) empty_row off))
      (cases_Bool (on_core rows k j))

  pub own_same : own_rows k new ≡ own_rows k rows
  unfolding own_rows
  own_same = ap (λ f. map f (range_with_len 0 64)) (fun_ext own_at_same)

  -- where a test answers the same of the core's tasks, they stay bounded
  pub stay_bounded : (ask ask' : Answers) → ((i : ℕ) (H : Set) → on_core new k i ≡ true → ask' i H ≡ ask i H) → Bounded ask rows k → Bounded ask' new k
  stay_bounded ask ask' answers bounded i on =
      ap is_some (ap (ask' i) (higher_same i on) ∙ answers i (higher_ranked rows i) on) ∙ bounded i (sym (same.tasks i) ∙ on)

-- a row written in a place without a task of the core, before and after
module _ (rows : List Row) (n : ℕ) (row : Row) (k : ℕ) (was : on_core rows k n ≡ false) (is : on_core (set rows n row) k n ≡ false) where
  other_row : (j : ℕ) → (j ≡ n → ⊥) → row_at (set rows n row) j ≡ row_at rows j
  other_row j ne = get_or-set_other rows n j row past ne

  core_same : (j : ℕ) → on_core (set rows n row) k j ≡ on_core rows k j
  unfolding on_core is_task
  core_same j =
      ⊎_elim
      (λ e. ap (on_core (set rows n row) k) e ∙ is ∙ sym (ap (on_core rows k) e ∙ was))
      (λ ne. ap (λ (z : Row). (ltb j 64 && holds_task z) && eqb z.core k) (other_row j ne))
      (cases_eq j n)

  pub written_elsewhere : SameOn k rows (set rows n row)
  written_elsewhere = record {
    tasks = core_same;
    row = λ j on. other_row j (λ e. both_ways (on_core (set rows n row) k j) (ap (on_core (set rows n row) k) e ∙ is) on);
  }

-- ranks written on another core
pub ranked_elsewhere : (rows : List Row) (core : ℕ) (xs : List ℕ) (k : ℕ) → OrderOf (on_core rows core) xs → (k ≡ core → ⊥) → SameOn k rows (written rows xs)
ranked_elsewhere rows core xs k o ne = record {
  tasks = core_kept xs rows (length xs) k;
  row = λ j on.
      let there : on_core rows k j ≡ true = sym (core_kept xs rows (length xs) k j) ∙ on in
      outside xs rows (length xs) j (o.each j ∙ other_core rows core j (λ e. ne (sym (on_core_is rows k j there) ∙ e)));
}
