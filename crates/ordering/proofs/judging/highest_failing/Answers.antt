use Rattle.ordering.proofs.Failing.{unbound_no, unbound_none, unbound_yes}
use Rattle.ordering.proofs.judging.highest_failing.Goals as goal
use Rattle.ordering.proofs.judging.highest_failing.Goals.{else-is_failing, then-is_failing}
use Rattle.ordering.specs.Judging.{higher_of, unbound_below}
use Rattle.ordering.specs.Orders.{Answers}
use Rattle.table.specs.Sets.{Set, members}
use Rattle.std.proofs.Common.{◌≡◌, sym, ap, ◌∙◌, arith}

pub loop-number-init : goal.loop-number-init
loop-number-init g c = unbound_none _ _ _

pub loop-number-preserved : goal.loop-number-preserved
loop-number-preserved g c =
    let ask : Answers = g.T.Test.meaning c.args.asking.now.test.now c.args.asking.now.board c.args.asking.now.rows.now in
    let rows = c.args.asking.now.rows.now in
    let tasks : Set = members c.args.tasks.now in
    elim c.if-is_failing.branch [
      | then-is_failing w ↦ w.found-is ∙ w.higher_one.ensures ∙ ap (λ r. higher_of r c.loop-number.found c.loop-number.number) w.rows.ensures.answer ∙ unbound_yes ask rows tasks c.loop-number.number c.loop-number.found c.loop-number.invariant (sym c.is_failing.ensures ∙ w.if-is_failing.true)
      | else-is_failing w ↦ w.found-is ∙ unbound_no ask rows tasks c.loop-number.number c.loop-number.found c.loop-number.invariant (sym c.is_failing.ensures ∙ w.if-is_failing.false)
    ]

pub returns : goal.returns
returns g c =
    let last : c.loop-number.number ≡ 64 = omega (arith, c.loop-number-test.false, c.loop-number.auto.number-end) in
    c.loop-number.invariant ∙ ap (unbound_below (g.T.Test.meaning c.args.asking.now.test.now c.args.asking.now.board c.args.asking.now.rows.now) c.args.asking.now.rows.now (members c.args.tasks.now)) last
