use Rattle.std.proofs.Common.{◌≡◌, ℕ, ◌+◌, ◌<◌, map, get_or, set, sym, refl, ◌∙◌, subst, arith}
use Rattle.std.proofs.lemmas.List.FromFn.{fill_by_all}
use Rattle.std.proofs.lemmas.List.Edits.{fill_by_more}
use Rattle.std.proofs.lemmas.List.{length-map, length-set, map-set}
use Rattle.table.proofs.tasks.Tasks.of.Goals as goal
use Rattle.table.specs.Rows.{past, plain, plain_row, row_at}
use Rattle.table.specs.Tasks.{row_of}
use Rattle.table.specs.declared.row.Row.{Row}

pub loop-number-preserved : goal.loop-number-preserved
loop-number-preserved c =
    let f : ℕ → Row = λ j. plain_row (row_at c.args.rows.now j) in
    let slots = c.loop-number.slot-items in
    let k = c.loop-number.number in
    let made : map row_of (set slots k c.task_at.result) ≡ set (map row_of slots) k (f k) =
    map-set row_of slots k c.task_at.result ∙ subst (λ x. set (map row_of slots) k (row_of c.task_at.result) ≡ set (map row_of slots) k x) c.task_at.ensures refl in (
      length-set slots k c.task_at.result ∙ c.loop-number.invariant.0,
      subst (λ rows. (j : ℕ) → j < k + 1 → get_or rows j past ≡ f j) (sym made)
          (fill_by_more f (map row_of slots) k past (omega (arith, length-map slots row_of, c.loop-number.invariant.0, c.loop-number-test.true)) c.loop-number.invariant.1),
    )

pub returns : goal.returns
unfolding plain
returns c = record {
  answer = fill_by_all (λ j. plain_row (row_at c.args.rows.now j)) (map row_of c.loop-number.slot-items) 64 past (length-map c.loop-number.slot-items row_of ∙ c.loop-number.invariant.0) (λ j l. c.loop-number.invariant.1 j (omega (arith, c.loop-number-test.false, c.loop-number.auto.number-end)));
}
