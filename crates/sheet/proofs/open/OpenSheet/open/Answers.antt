use Rattle.std.proofs.Common.{◌≡◌, ℕ, ◌≤◌, min, List, [], ◌∷◌, ◌++◌, map, replicate, length, take, drop, sym, refl, ap, ◌∙◌, ⊎_elim, arith}
use Rattle.sheet.proofs.open.OpenSheet.open.Goals as goal
use Rattle.sheet.specs.State.{fresh}
use Rattle.std.proofs.lemmas.List.{drop_all, take_all}
use Rattle.std.proofs.lemmas.Bool.{cases_lt}
use Rattle.table.specs.Rows.{empty_row}
use Rattle.table.specs.declared.row.Row.{Row}

abbrev emptied : List Row → ℕ → List Row
emptied rows n = map (λ row. empty_row) (take n rows) ++ drop n rows

-- all of a short list
short : (rows : List Row) (n : ℕ) → length rows ≤ n → emptied rows n ≡ map (λ row. empty_row) rows ++ []
short rows n h = rw (take_all n rows h, drop_all n rows h)

up_to_64 : (rows : List Row) (i : ℕ) → i ≡ min (length rows) 64 → emptied rows i ≡ emptied rows 64
up_to_64 rows i e =
    ⊎_elim
    (λ few. short rows i (omega arith) ∙ sym (short rows 64 (omega arith)))
    (λ many. let z : i ≡ 64 = omega arith in ap (emptied rows) z)
    (cases_lt (length rows) 64)

filled : (rows : List Row) → replicate (length rows) empty_row ≡ map (λ row. empty_row) rows
filled [] = refl
filled (row ∷ rows) = ap (λ zs. empty_row ∷ zs) (filled rows)

pub returns : goal.returns
returns c =
    let rows = c.args.rows.now in
    let n = c.capacity_of-n.result in
    let rest : List Row = drop n rows in
    record {
      after = ap (λ zs. record { board = c.args.board; rows = zs; marks = (fresh c.args.board rows).marks }) (ap (λ zs. zs ++ rest) (c.fill.ensures.after (λ y same. same) ∙ filled (take n rows)) ∙ up_to_64 rows n c.capacity_of-n.ensures.answer);
      lent = refl;
    }
