use Rattle.table.proofs.Flags.{count_in_more, count_out_more, count_zero}
use Rattle.table.proofs.set.TaskSet.size.Goals as goal
use Rattle.table.proofs.set.TaskSet.size.Goals.{else-self-k, then-self-k}
use Rattle.table.specs.Sets.{count_below, members}
use Rattle.std.proofs.Common.{◌≡◌, sym, ap, ◌∙◌, arith}

pub loop-k-init : goal.loop-k-init
loop-k-init c = (sym (count_zero (members c.args.self.now)), omega arith)

pub loop-k-preserved : goal.loop-k-preserved
loop-k-preserved c =
    let set = members c.args.self.now in
    elim c.if-self-k.branch [
      | then-self-k w ↦ (w.n-is ∙ count_in_more set c.loop-k.k c.loop-k.n c.loop-k.invariant.0 w.if-self-k.true, omega (arith, w.n-is, c.loop-k.invariant.1))
      | else-self-k w ↦ (w.n-is ∙ count_out_more set c.loop-k.k c.loop-k.n c.loop-k.invariant.0 w.if-self-k.false, omega (arith, w.n-is, c.loop-k.invariant.1))
    ]

pub returns : goal.returns
returns c =
    let last : c.loop-k.k ≡ 64 = omega (arith, c.loop-k-test.false, c.loop-k.auto.k-end) in
    record { answer = c.loop-k.invariant.0 ∙ ap (count_below (members c.args.self.now)) last }
