use Rattle.std.proofs.Common.{◌≡◌, ℕ, ◌+◌, ◌-◌, ◌<◌, List, length, get_or, drop, sym, ap, ◌∙◌, arith}
use Rattle.ordering.proofs.Reranks.{written_writes}
use Rattle.ordering.proofs.writing.write_ranks.Goals as goal
use Rattle.ordering.proofs.writing.write_ranks.Goals.{else-number-rows, then-number-rows}
use Rattle.ordering.specs.Writing.{ranked_by, reranked, with_rank, written}
use Rattle.shortlist.specs.Items.{items}
use Rattle.std.proofs.lemmas.List.{at_drop_all, at_drop_more, set_past}
use Rattle.table.specs.Rows.{row_at}
use Rattle.table.specs.declared.row.Row.{Row}

step : (rows after : List Row) (numbers : List ℕ) (n p : ℕ) → p < length numbers → after ≡ reranked rows (get_or numbers p 0) (n - p) → ranked_by after (drop (p + 1) numbers) (n - (p + 1)) ≡ ranked_by rows (drop p numbers) (n - p)
step rows after numbers n p l e =
    let less : n - (p + 1) ≡ n - p - 1 = omega arith in
    ap (λ z. ranked_by z (drop (p + 1) numbers) (n - (p + 1))) e
    ∙ ap (ranked_by (reranked rows (get_or numbers p 0) (n - p)) (drop (p + 1) numbers)) less
    ∙ sym (at_drop_more (λ xs. ranked_by rows xs (n - p)) numbers p 0 l)

pub loop-place-preserved : goal.loop-place-preserved
loop-place-preserved c =
    let rows = c.loop-place.rows in
    let numbers = c.as_slice-number-items.result.now in
    let n = c.len-n.result in
    let p = c.loop-place.place in
    elim c.if-number-rows.branch [
      | then-number-rows w ↦ step rows c.if-number-rows.rows numbers n p c.loop-place-test.true w.rows-is ∙ c.loop-place.invariant
      | else-number-rows w ↦
          step rows c.if-number-rows.rows numbers n p c.loop-place-test.true
          (w.rows-is ∙ sym (set_past rows (get_or numbers p 0) (with_rank (row_at rows (get_or numbers p 0)) (n - p)) w.if-number-rows.false))
          ∙ c.loop-place.invariant
    ]

pub returns : goal.returns
returns c =
    let start = c.args.rows.now in
    let numbers = c.as_slice-number-items.result.now in
    let told = c.as_slice-number-items.ensures.value in
    let is : c.loop-place.rows ≡ written start (items c.args.order.now.numbers) =
    sym (at_drop_all (λ xs. ranked_by c.loop-place.rows xs (c.len-n.result - c.loop-place.place)) numbers c.loop-place.place c.loop-place-test.false)
    ∙ c.loop-place.invariant
    ∙ ap (ranked_by start numbers) c.len-n.ensures.value
    ∙ ap (λ xs. ranked_by start xs (length (items c.args.order.now.numbers))) told in
    record { rows = is; writes = written_writes start _ c.loop-place.rows is }
