use Rattle.std.proofs.Common.{rules, ◌≡◌, ℕ, replicate, Some, None, Err, Option, refl, ap, ◌∙◌, arith}
use Rattle.bounds.proofs.Listed.{filled_all, filled_more, filled_none, filled_stop}
use Rattle.bounds.proofs.response.Ranked.round.Goals as goal
use Rattle.bounds.specs.Rounds.{bound_after, round_after}
use Rattle.bounds.specs.declared.lengths.Lengths.{Lengths}

pub loop-number-init : goal.loop-number-init
loop-number-init c = filled_none _ (replicate 64 0) refl

pub returns-in_err-bound : goal.returns-in_err-bound
unfolding round_after
returns-in_err-bound c =
    let self = c.args.self.now in
    let f : ℕ → Option ℕ = bound_after self.table.board self.rows.now c.args.before.of in
    let i = c.loop-number.number in
    let none : None ≡ c.bound_at.result = search rules in
    let is : c.from_residual.result ≡ Err i = search rules in
    is ∙ filled_stop f i c.loop-number.bound-items c.loop-number-test.true
    (none ∙ c.bound_at.ensures ∙ ap (λ (v : Lengths). bound_after self.table.board self.rows.now v.of i) c.with_lengths-rivals.ensures.ahead)
    c.loop-number.invariant

pub loop-number-preserved : goal.loop-number-preserved
loop-number-preserved c =
    let self = c.args.self.now in
    let f : ℕ → Option ℕ = bound_after self.table.board self.rows.now c.args.before.of in
    let i = c.loop-number.number in
    let some : Some c.in_ok-bound.field-0 ≡ c.bound_at.result = search rules in
    filled_more f i c.in_ok-bound.field-0 c.loop-number.bound-items c.loop-number-test.true
    (some ∙ c.bound_at.ensures ∙ ap (λ (v : Lengths). bound_after self.table.board self.rows.now v.of i) c.with_lengths-rivals.ensures.ahead)
    c.loop-number.invariant

pub returns : goal.returns
unfolding round_after
returns c =
    let self = c.args.self.now in
    filled_all (bound_after self.table.board self.rows.now c.args.before.of) c.loop-number.number c.loop-number.bound-items (omega (arith, c.loop-number-test.false, c.loop-number.auto.number-end)) c.loop-number.invariant
