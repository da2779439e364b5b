-- A fresh sheet: its first 64 rows are empty, and the others are as they were.
use Rattle.std.proofs.Common.{◌≡◌, ℕ, zero, suc, ◌<◌, false, List, [], ◌∷◌, ◌++◌, map, length, take, drop, refl, ap, ⊎_elim, arith}
use Rattle.sheet.specs.Formed.{WellFormed}
use Rattle.sheet.specs.State.{fresh}
use Rattle.std.proofs.lemmas.Bool.{both_ways, cases_lt}
use Rattle.table.proofs.Places.{row_past}
use Rattle.table.specs.Rows.{capacity, empty_row, row_at}
use Rattle.table.specs.declared.board.Board.{Board}
use Rattle.table.specs.declared.row.Row.{Row}

-- the first n rows emptied
abbrev emptied : ℕ → List Row → List Row
emptied n rows = map (λ row. empty_row) (take n rows) ++ drop n rows

empty_at : (n : ℕ) (rows : List Row) (i : ℕ) → i < n → i < length rows → row_at (emptied n rows) i ≡ empty_row
empty_at zero rows i l h = absurd (omega arith)
empty_at (suc n) [] i l h = absurd (omega arith)
empty_at (suc n) (q ∷ rows) zero l h = refl
empty_at (suc n) (q ∷ rows) (suc i) l h = empty_at n rows i (omega arith) (omega arith)

emptied_long : (n : ℕ) (rows : List Row) → length (emptied n rows) ≡ length rows
emptied_long zero rows = refl
emptied_long (suc n) [] = refl
emptied_long (suc n) (q ∷ rows) = ap suc (emptied_long n rows)

emptied_rest : (n : ℕ) (rows : List Row) → drop n (emptied n rows) ≡ drop n rows
emptied_rest zero rows = refl
emptied_rest (suc n) [] = refl
emptied_rest (suc n) (q ∷ rows) = emptied_rest n rows

module _ (board : Board) (rows : List Row) where
  pub fresh_empty : (i : ℕ) → i < capacity rows → row_at (fresh board rows).rows i ≡ empty_row
  fresh_empty i l = empty_at 64 rows i (omega arith) (omega arith)

  pub fresh_long : length (fresh board rows).rows ≡ length rows
  fresh_long = emptied_long 64 rows

  pub fresh_rest : drop 64 (fresh board rows).rows ≡ drop 64 rows
  fresh_rest = emptied_rest 64 rows

  unused : (i : ℕ) → i < 64 → (row_at (fresh board rows).rows i).used ≡ false
  unused i l =
      ⊎_elim
      (λ inside. ap (λ (z : Row). z.used) (empty_at 64 rows i l inside))
      (λ over. ap (λ (z : Row). z.used) (row_past (fresh board rows).rows i (omega (arith, fresh_long))))
      (cases_lt i (length rows))

  pub fresh_formed : WellFormed board (fresh board rows).rows
  fresh_formed = record {
    lawful = λ i l u. absurd (both_ways (row_at (fresh board rows).rows i).used (unused i l) u);
    apart = λ i j l n u v c r. absurd (both_ways (row_at (fresh board rows).rows i).used (unused i l) u);
    empty = λ i l u. fresh_empty i (omega (arith, fresh_long));
  }
