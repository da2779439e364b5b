use Rattle.std.proofs.Common.{◌≡◌, ◌+◌, true, false, is_some, sym, ap, ◌∙◌, arith}
use Rattle.ordering.proofs.search.find_taker.Goals as goal
use Rattle.ordering.proofs.search.find_taker.Goals.{else-has, then-has+else-is_some}
use Rattle.ordering.specs.Orders.{Answers}
use Rattle.ordering.specs.Search.{can_take}
use Rattle.std.proofs.lemmas.Bool.{and_from, and_left, and_right}
use Rattle.table.proofs.Firsts.{first_no, first_none, first_stays, first_yes}
use Rattle.table.proofs.Flags.{count_in_more, count_out_more, count_zero}
use Rattle.table.specs.Firsts.{first_that}
use Rattle.table.specs.Sets.{Set, count_below, members, without}

pub loop-k-init : goal.loop-k-init
loop-k-init g c = (first_none _, sym (count_zero (members c.args.tasks.now)), omega arith)

pub returns-then-is_some : goal.returns-then-is_some
returns-then-is_some g c =
    let ask : Answers = g.T.Test.meaning c.args.asking.now.test.now c.args.asking.now.board c.args.asking.now.rows.now in
    let U : Set = members c.args.tasks.now in
    let k = c.loop-k.k in
    let there : U k ≡ true = sym c.has.ensures.answer ∙ c.if-has.true in
    let bound : is_some (ask k (without U k)) ≡ true =
    ap (λ V. is_some (ask k V)) (sym c.without.ensures.answer) ∙ ap is_some (sym c.ask.ensures.answer) ∙ sym c.is_some.ensures ∙ c.if-is_some.true in
    record {
      number = sym (first_stays (can_take ask U) (k + 1) 64 k (omega (arith, c.loop-k-test.true)) (first_yes (can_take ask U) k c.loop-k.invariant.0 (and_from (U k) (is_some (ask k (without U k))) there bound)));
      trials = count_in_more U k c.loop-k.trials c.loop-k.invariant.1 there;
    }

pub loop-k-preserved : goal.loop-k-preserved
loop-k-preserved g c =
    let ask : Answers = g.T.Test.meaning c.args.asking.now.test.now c.args.asking.now.board c.args.asking.now.rows.now in
    let U : Set = members c.args.tasks.now in
    let k = c.loop-k.k in
    elim c.if-has.branch [
      | then-has+else-is_some w ↦
          let there : U k ≡ true = sym c.has.ensures.answer ∙ w.if-has.true in
          let none : is_some (ask k (without U k)) ≡ false =
          ap (λ V. is_some (ask k V)) (sym w.without.ensures.answer) ∙ ap is_some (sym w.ask.ensures.answer) ∙ sym w.is_some.ensures ∙ w.if-is_some.false in (
            first_no (can_take ask U) k c.loop-k.invariant.0 (and_right (U k) (is_some (ask k (without U k))) none),
            w.trials-is ∙ count_in_more U k c.loop-k.trials c.loop-k.invariant.1 there,
            omega (arith, w.trials-is, c.loop-k.invariant.2),
          )
      | else-has w ↦
          let out : U k ≡ false = sym c.has.ensures.answer ∙ w.if-has.false in (
            first_no (can_take ask U) k c.loop-k.invariant.0 (and_left (U k) (is_some (ask k (without U k))) out),
            w.trials-is ∙ count_out_more U k c.loop-k.trials c.loop-k.invariant.1 out,
            omega (arith, w.trials-is, c.loop-k.invariant.2),
          )
    ]

pub returns : goal.returns
returns g c =
    let ask : Answers = g.T.Test.meaning c.args.asking.now.test.now c.args.asking.now.board c.args.asking.now.rows.now in
    let U : Set = members c.args.tasks.now in
    let last : c.loop-k.k ≡ 64 = omega (arith, c.loop-k-test.false, c.loop-k.auto.k-end) in
    record {
      number = sym c.loop-k.invariant.0 ∙ ap (first_that (can_take ask U)) last;
      trials = c.loop-k.invariant.1 ∙ ap (count_below U) last;
    }
