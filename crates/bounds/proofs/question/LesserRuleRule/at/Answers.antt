use Rattle.std.proofs.Common.{◌≡◌, ◌<◌, get_or, take, sym, ap, ◌∙◌, subst, arith}
use Rattle.bounds.proofs.Valued.{so_far, so_far_all, so_far_more, so_far_none, so_far_same}
use Rattle.bounds.proofs.question.LesserRuleRule.at.Goals as goal
use Rattle.bounds.proofs.question.LesserRuleRule.at.Goals.{else-y-core, then-y-core}
use Rattle.bounds.specs.Loads.{Total, no_sums, of_core}
use Rattle.shortlist.specs.Items.{items}
use Rattle.std.proofs.lemmas.List.{get_or-take, length-take}
use Rattle.std.proofs.Math.Nat.{min-le_right}

pub loop-y-init : goal.loop-y-init
loop-y-init c = (so_far_none c.args.self.now.board.now c.args.self.now.own.now (items c.args.self.now.rivals.now) c.args.window.length c.sums-own.result c.sums-own.ensures.value, c.sums-own.ensures.small.cost)

pub total-sum-requires : goal.total-sum-requires
total-sum-requires c = record {
  few = c.args.self.now.board.now.few_resources;
  small = λ r l. omega (arith, c.lesser-shares.ensures r l, min-le_right (get_or (get_or (take c.args.self.now.board.now.cores c.sums_by_core-theirs.result) c.loop-y.y no_sums).shared r 0) (get_or c.sums-own.result.shared r 0), c.sums-own.ensures.small.shared r l);
}

pub overflow_add-sum : goal.overflow_add-sum
overflow_add-sum c =
    let board = c.args.self.now.board.now in
    omega (arith, c.loop-y.invariant.1, c.total-sum.ensures.small, c.loop-y-test.true, length-take board.cores c.sums_by_core-theirs.result, board.few_cores, board.few_resources)

pub loop-y-preserved : goal.loop-y-preserved
loop-y-preserved c =
    let q = c.args.self.now in
    let t = c.args.window.length in
    let y = c.loop-y.y in
    let own = c.sums-own in
    elim c.if-y-core.branch [
      | then-y-core w ↦
          let there : y < q.board.now.cores = omega (arith, c.loop-y-test.true, length-take q.board.now.cores c.sums_by_core-theirs.result) in
          let theirs = get_or (take q.board.now.cores c.sums_by_core-theirs.result) y no_sums in
          let total = subst (Total (of_core y) t no_sums (items q.rivals.now)) (sym (get_or-take q.board.now.cores c.sums_by_core-theirs.result y no_sums there)) (c.sums_by_core-theirs.ensures y (omega (arith, there, q.board.now.few_cores))) in (
            omega (arith, w.sum-is, c.loop-y.invariant.0, w.total-sum.ensures.value, so_far_more q.board.now q.own.now (items q.rivals.now) t y own.result theirs w.lesser-shares.result w.if-y-core.true own.ensures.value total w.lesser-shares.ensures),
            omega (arith, w.sum-is, c.loop-y.invariant.1, w.total-sum.ensures.small, q.board.now.few_resources),
          )
      | else-y-core w ↦ (
        omega (arith, w.sum-is, c.loop-y.invariant.0, so_far_same q.board.now q.own.now (items q.rivals.now) t y w.if-y-core.false),
        omega (arith, w.sum-is, c.loop-y.invariant.1),
      )
    ]

pub returns : goal.returns
returns c =
    let q = c.args.self.now in
    let last : c.loop-y.y ≡ q.board.now.cores = omega (arith, c.loop-y-test.false, c.loop-y.auto.y-end, length-take q.board.now.cores c.sums_by_core-theirs.result) in
    c.loop-y.invariant.0 ∙ ap (so_far q.board.now q.own.now (items q.rivals.now) c.args.window.length) last ∙ so_far_all q.board.now q.own.now (items q.rivals.now) c.args.window.length
