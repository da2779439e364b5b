use Rattle.std.proofs.Common.{take, refl, sym, subst, arith}
use Rattle.bounds.proofs.Totals.{at_most_more, at_most_weaker, one_more, seen_le, total_more}
use Rattle.bounds.proofs.load.summing.sums.Goals as goal
use Rattle.bounds.specs.Loads.{Added, Total, every}

pub loop-load-preserved : goal.loop-load-preserved
loop-load-preserved c =
    let loads = c.as_slice-load-items.result.now in
    let k = c.loop-load.load-index in
    let x = c.load-item.result in
    let sums = c.loop-load.sums in
    let added = subst (λ n. Added sums n x c.add-sums.result) c.releases.ensures.value c.add-sums.ensures in (
      subst (λ xs. Total every c.args.window.length c.args.start xs c.add-sums.result) (sym (one_more loads k x c.loop-load-test.true c.load-item.is))
          (total_more every c.args.window.length c.args.start (take k loads) x sums c.add-sums.result refl c.loop-load.invariant.0 added),
      at_most_weaker _ _ _ (omega arith) (at_most_more _ _ sums c.add-sums.result x (seen_le c.args.window x) c.loop-load.invariant.1 added),
    )
