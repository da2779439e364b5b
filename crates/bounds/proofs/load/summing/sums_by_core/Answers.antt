use Rattle.std.proofs.Common.{ℕ, ◌+◌, ◌<◌, get_or, set, take, refl, sym, ◌∙◌, subst, arith}
use Rattle.bounds.proofs.Totals.{ByCore, at_most_weaker, by_core_more, by_core_none, one_more}
use Rattle.bounds.proofs.load.summing.sums_by_core.Goals as goal
use Rattle.bounds.specs.Loads.{Added, Total, no_sums, of_core}
use Rattle.std.proofs.lemmas.List.{length-set, take_all}
use Rattle.table.proofs.Limited.{below_four}

pub loop-load-init : goal.loop-load-init
loop-load-init c = (refl, by_core_none c.args.window _ refl (below_four _ refl refl refl refl))

pub add-requires : goal.add-requires
add-requires c =
    let x = c.load-item.result in
    record {
      low = at_most_weaker _ _ _ (omega arith) (c.loop-load.invariant.1 x.core x.core_low).1;
      few = c.releases.ensures.few;
    }

pub loop-load-preserved : goal.loop-load-preserved
loop-load-preserved c =
    let loads = c.as_slice-load-items.result.now in
    let k = c.loop-load.load-index in
    let x = c.load-item.result in
    let sums = c.loop-load.sums in
    let added = subst (λ n. Added (get_or sums x.core no_sums) n x c.add.result) c.releases.ensures.value c.add.ensures in (
      length-set sums x.core c.add.result ∙ c.loop-load.invariant.0,
      subst (λ xs. (y : ℕ) → y < 8 → ByCore c.args.window (k + 1) xs (set sums x.core c.add.result) y) (sym (one_more loads k x c.loop-load-test.true c.load-item.is))
          (by_core_more c.args.window k (take k loads) x sums c.add.result c.loop-load.invariant.0 added c.loop-load.invariant.1),
    )

pub returns : goal.returns
returns c y l =
    let loads = c.as_slice-load-items.result.now in
    subst (λ xs. Total (of_core y) c.args.window.length no_sums xs (get_or c.loop-load.sums y no_sums)) (take_all c.loop-load.load-index loads c.loop-load-test.false ∙ c.as_slice-load-items.ensures.value) (c.loop-load.invariant.1 y l).0
