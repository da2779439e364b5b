-- Row lists that are alike on a core: the same numbers have tasks there, with the same figures. A list is alike on every
-- core with its tasks alone, and on one core with the tasks of that core alone: a task's row stands there without its
-- rank, and every other place is empty. So whatever reads only tasks and figures cannot tell the lists apart.
use Rattle.std.proofs.Common.{◌≡◌, ℕ, ◌<◌, ◌≤◌, Bool, true, false, cond, ◌&&◌, ltb, List, map, sym, refl, ap, ◌∙◌, inl, inr, arith}
use Rattle.std.proofs.lemmas.List.FromFn.{get_or-map-range_with_len}
use Rattle.std.proofs.lemmas.Bool.{and_parts, both_ways, cases_Bool, cases_lt, cond-false, cond-true}
use Rattle.std.specs.List.{range_with_len}
use Rattle.table.proofs.Places.{no_task_from, no_task_past, off_board, off_core, on_core_from, on_core_is, on_core_task, other_core, task_from, task_holds}
use Rattle.table.specs.Limits.{in_limits}
use Rattle.table.specs.Rows.{empty_row, holds_task, is_task, on_board, on_core, own_rows, past, plain, plain_row, row_at}
use Rattle.table.specs.declared.board.Board.{Board}
use Rattle.table.specs.declared.row.Row.{Row}

-- the same numbers have tasks on core x, with the same figures
abbrev pub Alike : ℕ → List Row → List Row → Type 0
Alike x rows other = (j : ℕ) → (on_core rows x j ≡ on_core other x j) × (on_core rows x j ≡ true → (row_at rows j).figures ≡ (row_at other j).figures)

pub alike_self : (rows : List Row) (x : ℕ) → Alike x rows rows
alike_self rows x j = (refl, λ _. refl)

-- a task's row but for its rank
abbrev unranked : Row → Row
unranked row = record { used = true; core = row.core; rank = 1; figures = row.figures }

plain_of_task : (row : Row) → holds_task row ≡ true → plain_row row ≡ unranked row
plain_of_task row h = cond-true (holds_task row) (unranked row) empty_row h

empty_off : (rows : List Row) (x j : ℕ) → row_at rows j ≡ empty_row → on_core rows x j ≡ false
empty_off rows x j e = off_core rows x j (no_task_from rows j (ap holds_task e))

past_off : (rows : List Row) (x j : ℕ) → 64 ≤ j → on_core rows x j ≡ false
past_off rows x j g = off_core rows x j (no_task_past rows j g)

-- one place: the row there is kept without its rank, or is empty, and it is kept if it is a task of core x
module _ (rows other : List Row) (x j : ℕ) (low : j < 64) where
  on_there : on_core rows x j ≡ true → row_at other j ≡ plain_row (row_at rows j) → (on_core other x j ≡ true) × ((row_at rows j).figures ≡ (row_at other j).figures)
  on_there on e =
      let holds = task_holds rows j (on_core_task rows x j on) in
      let is : row_at other j ≡ unranked (row_at rows j) = e ∙ plain_of_task (row_at rows j) holds in (
        on_core_from other x j (task_from other j low (ap holds_task is ∙ (and_parts (row_at rows j).used (in_limits (row_at rows j).figures) holds).1)) (ap (λ (q : Row). q.core) is ∙ on_core_is rows x j on),
        sym (ap (λ (q : Row). q.figures) is),
      )

  off_there : on_core rows x j ≡ false → row_at other j ≡ plain_row (row_at rows j) → on_core other x j ≡ false
  off_there off e =
      elim (cases_Bool (holds_task (row_at rows j))) [
        | inl holds ↦
            other_core other x j (λ same. both_ways (on_core rows x j) off
            (on_core_from rows x j (task_from rows j low holds) (sym (ap (λ (q : Row). q.core) (e ∙ plain_of_task (row_at rows j) holds)) ∙ same)))
        | inr free ↦ empty_off other x j (e ∙ cond-false (holds_task (row_at rows j)) (unranked (row_at rows j)) empty_row free)
      ]

  pub alike_at : (keeps : Bool) → row_at other j ≡ cond keeps (plain_row (row_at rows j)) empty_row → (on_core rows x j ≡ true → keeps ≡ true) → (on_core rows x j ≡ on_core other x j) × (on_core rows x j ≡ true → (row_at rows j).figures ≡ (row_at other j).figures)
  alike_at keeps e kept =
      elim (cases_Bool (on_core rows x j)) [
        | inl on ↦
            let there = on_there on (e ∙ cond-true keeps (plain_row (row_at rows j)) empty_row (kept on)) in
            (on ∙ sym there.0, λ _. there.1)
        | inr off ↦ (
          off ∙ sym (elim (cases_Bool keeps) [
            | inl keep ↦ off_there off (e ∙ cond-true keeps (plain_row (row_at rows j)) empty_row keep)
            | inr drop ↦ empty_off other x j (e ∙ cond-false keeps (plain_row (row_at rows j)) empty_row drop)
          ]),
          λ on. absurd (both_ways (on_core rows x j) off on),
        )
      ]

alike_from : (rows other : List Row) (x : ℕ) (keeps : ℕ → Bool) → ((j : ℕ) → j < 64 → row_at other j ≡ cond (keeps j) (plain_row (row_at rows j)) empty_row) → ((j : ℕ) → on_core rows x j ≡ true → keeps j ≡ true) → Alike x rows other
alike_from rows other x keeps is kept j =
    elim (cases_lt j 64) [
      | inl l ↦ alike_at rows other x j l (keeps j) (is j l) (kept j)
      | inr g ↦ (past_off rows x j g ∙ sym (past_off other x j g), λ on. absurd (both_ways (on_core rows x j) (past_off rows x j g) on))
    ]

counted : (f : ℕ → Row) (k : ℕ) → k < 64 → row_at (map f (range_with_len 0 64)) k ≡ f k
counted f k l = get_or-map-range_with_len f 0 64 k k past l (omega arith)

pub plain_alike : (x : ℕ) (rows : List Row) → Alike x rows (plain rows)
unfolding plain
plain_alike x rows = alike_from rows (plain rows) x (λ _. true) (λ j l. counted (λ k. plain_row (row_at rows k)) j l) (λ j _. refl)

pub own_alike : (x : ℕ) (rows : List Row) → Alike x rows (own_rows x rows)
unfolding own_rows
own_alike x rows = alike_from rows (own_rows x rows) x (on_core rows x) (λ j l. counted (λ k. cond (on_core rows x k) (plain_row (row_at rows k)) empty_row) j l) (λ j on. on)

-- lists that are alike on every core have the same tasks, on the same cores
pub alike_task : (rows other : List Row) → ((x : ℕ) → Alike x rows other) → (j : ℕ) → is_task rows j ≡ true → (is_task other j ≡ true) × ((row_at rows j).core ≡ (row_at other j).core)
alike_task rows other alike j task =
    let x = (row_at rows j).core in
    let there : on_core other x j ≡ true = sym (alike x j).0 ∙ on_core_from rows x j task refl in
    (on_core_task other x j there, sym (on_core_is other x j there))

alike_back : (rows other : List Row) → ((x : ℕ) → Alike x rows other) → (j : ℕ) → is_task other j ≡ true → is_task rows j ≡ true
alike_back rows other alike j task =
    let x = (row_at other j).core in
    on_core_task rows x j ((alike x j).0 ∙ on_core_from other x j task refl)

pub alike_no_task : (rows other : List Row) → ((x : ℕ) → Alike x rows other) → (j : ℕ) → is_task rows j ≡ false → is_task other j ≡ false
alike_no_task rows other alike j none =
    elim (cases_Bool (is_task other j)) [
      | inl task ↦ absurd (both_ways (is_task rows j) none (alike_back rows other alike j task))
      | inr free ↦ free
    ]

-- so a number is on the board in both, or in neither
pub plain_on_board : (board : Board) (rows : List Row) (k : ℕ) → on_board board (plain rows) k ≡ on_board board rows k
unfolding on_board
plain_on_board board rows k =
    let alike : (x : ℕ) → Alike x rows (plain rows) = λ x. plain_alike x rows in
    elim (cases_Bool (is_task rows k)) [
      | inl task ↦
          let there = alike_task rows (plain rows) alike k task in
          ap (λ b. b && ltb (row_at (plain rows) k).core board.cores) (there.0 ∙ sym task)
          ∙ ap (λ c. is_task rows k && ltb c board.cores) (sym there.1)
      | inr none ↦ off_board board (plain rows) k (alike_no_task rows (plain rows) alike k none) ∙ sym (off_board board rows k none)
    ]

pub plain_figures : (rows : List Row) (k : ℕ) → is_task rows k ≡ true → (row_at (plain rows) k).figures ≡ (row_at rows k).figures
plain_figures rows k task = sym ((plain_alike (row_at rows k).core rows k).1 (on_core_from rows (row_at rows k).core k task refl))
