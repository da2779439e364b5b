use Rattle.std.proofs.Common.{◌≡◌, ℕ, ◌+◌, ◌-◌, ◌<◌, ◌≤◌, [], ◌∷◌, ◌++◌, length, Some, None, Option, sym, refl, ap, ◌∙◌, subst, arith}
use Rattle.ordering.proofs.Filling.{fill_done, fill_next, fill_start, fill_stuck}
use Rattle.ordering.proofs.Takers.{Took, took, tried_le}
use Rattle.ordering.proofs.search.fill_places.Goals as goal
use Rattle.ordering.specs.Orders.{Answers}
use Rattle.ordering.specs.Search.{after, fill, first_taker, refused, tried}
use Rattle.shortlist.specs.Items.{items}
use Rattle.table.proofs.Flags.{count_le}
use Rattle.table.specs.Sets.{Set, members, without}

-- a taker is below 64, and no more than 64 tasks are tried
below : (ask : Answers) (U : Set) (k : ℕ) → first_taker ask U ≡ Some k → k < 64
below ask U k e = (subst (Took ask U) e (took ask U)).0

few : (ask : Answers) (U : Set) (o : Option ℕ) → o ≡ first_taker ask U → tried U o ≤ 64
few ask U o e = omega (arith, tried_le ask U o (subst (Took ask U) (sym e) (took ask U)), count_le U 64)

pub loop-placed-init : goal.loop-placed-init
loop-placed-init g c =
    let ask : Answers = g.T.Test.meaning c.args.asking.now.test.now c.args.asking.now.board c.args.asking.now.rows.now in
    let U : Set = members c.args.tasks in (
      ap (λ xs. after xs 0 (fill ask U (c.size-count.result - 0))) c.new-numbers.ensures ∙ fill_start ask U U c.size-count.result refl c.size-count.ensures.answer,
      omega arith,
      omega (arith, c.size-count.ensures.answer, count_le U 64),
      ap length c.new-numbers.ensures,
    )

pub overflow_add-trials : goal.overflow_add-trials
overflow_add-trials g c =
    let ask : Answers = g.T.Test.meaning c.args.asking.now.test.now c.args.asking.now.board c.args.asking.now.rows.now in
    let taker = c.find_taker-taker in
    omega (arith, c.loop-placed.invariant.1, c.loop-placed.invariant.2, c.loop-placed-test.true, taker.ensures.trials, few ask (members c.loop-placed.left) taker.result.number taker.ensures.number)

pub returns-in_default : goal.returns-in_default
returns-in_default g c =
    let ask : Answers = g.T.Test.meaning c.args.asking.now.test.now c.args.asking.now.board c.args.asking.now.rows.now in
    let U : Set = members c.loop-placed.left in
    let taker = c.find_taker-taker in
    let none : first_taker ask U ≡ None = sym taker.ensures.number ∙ c.in_default.is in
    let tries : taker.result.trials ≡ tried U None = taker.ensures.trials ∙ ap (tried U) c.in_default.is in
    ap (λ n. refused (c.loop-placed.trials + n) (c.size-count.result - c.loop-placed.placed)) tries
    ∙ sym (fill_stuck ask U c.size-count.result c.loop-placed.placed c.loop-placed.trials (items c.loop-placed.numbers) c.loop-placed-test.true none)
    ∙ c.loop-placed.invariant.0

pub loop-placed-preserved : goal.loop-placed-preserved
loop-placed-preserved g c =
    let ask : Answers = g.T.Test.meaning c.args.asking.now.test.now c.args.asking.now.board c.args.asking.now.rows.now in
    let U : Set = members c.loop-placed.left in
    let k = c.in-Some.number in
    let n = c.size-count.result in
    let p = c.loop-placed.placed in
    let xs = items c.loop-placed.numbers in
    let taker = c.find_taker-taker in
    let room : length xs < 64 = omega (arith, c.loop-placed.invariant.2, c.loop-placed.invariant.3, c.loop-placed-test.true) in
    let found : first_taker ask U ≡ Some k = sym taker.ensures.number ∙ c.in-Some.is in
    let tries : taker.result.trials ≡ tried U (Some k) = taker.ensures.trials ∙ ap (tried U) c.in-Some.is in (
      ap (λ ys. after ys (c.loop-placed.trials + taker.result.trials) (fill ask (members c.without-left.result) (n - (p + 1)))) (c.push.ensures.room room)
          ∙ ap (λ V. after (xs ++ k ∷ []) (c.loop-placed.trials + taker.result.trials) (fill ask V (n - (p + 1)))) c.without-left.ensures.answer
          ∙ ap (λ t. after (xs ++ k ∷ []) (c.loop-placed.trials + t) (fill ask (without U k) (n - (p + 1)))) tries
          ∙ sym (fill_next ask U n p k c.loop-placed.trials xs c.loop-placed-test.true found)
          ∙ c.loop-placed.invariant.0,
      omega (arith, c.loop-placed.invariant.1, taker.ensures.trials, few ask U taker.result.number taker.ensures.number),
      c.loop-placed.invariant.2,
      omega (arith, c.push.ensures.len room, c.loop-placed.invariant.3),
    )

pub returns : goal.returns
returns g c =
    let ask : Answers = g.T.Test.meaning c.args.asking.now.test.now c.args.asking.now.board c.args.asking.now.rows.now in
    let p = c.loop-placed.placed in
    sym (fill_done ask (members c.loop-placed.left) c.size-count.result p (items c.loop-placed.numbers) c.loop-placed.trials c.loop-placed-test.false)
    ∙ c.loop-placed.invariant.0
