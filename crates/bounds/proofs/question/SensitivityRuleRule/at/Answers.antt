use Rattle.std.proofs.Common.{◌+◌, ◌-◌, ◌*◌, ◌^◌, ◌≤◌, ap, ◌∙◌, mul-le-mul, arith}
use Rattle.bounds.specs.Adding.{sum_same}
use Rattle.bounds.proofs.question.SensitivityRuleRule.at.Goals as goal
use Rattle.bounds.specs.Questions.{own_cost}

pub overflow_add-result : goal.overflow_add-result
overflow_add-result c =
    let q = c.args.self.now in
    let few : q.board.now.cores - 1 ≤ 7 = omega (arith, q.board.now.few_cores) in
    let small : c.total.result ≤ 2 ^ 56 = omega (arith, c.total.ensures.small, q.board.now.few_resources) in
    omega (arith, mul-le-mul {n₁ = q.board.now.cores - 1} {m₁ = c.total.result} {n₂ = 7} {m₂ = 2 ^ 56} few small, c.sums-own.ensures.small.cost)

pub returns : goal.returns
returns c =
    let q = c.args.self.now in
    ap (λ n. n + (q.board.now.cores - 1) * c.total.result) c.sums-own.ensures.value.cost
    ∙ ap (λ n. own_cost q.own.now c.args.window.length + (q.board.now.cores - 1) * n)
    (c.total.ensures.value ∙ sum_same q.board.now.resources _ _ (λ k l. c.sums-own.ensures.value.shared k (omega (arith, q.board.now.few_resources))))
