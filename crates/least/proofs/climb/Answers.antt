-- No solution lies below t, so a hit at t is the least; and t is no more than what the rule gives there, so the rule
-- gives more unless it hits: every solution is at least that, and the climb goes on from there.
use Rattle.std.proofs.Common.{◌≡◌, ℕ, ◌≤◌, min, sym, ◌∙◌, arith}
use Rattle.least.proofs.Smaller.{not_below}
use Rattle.least.proofs.Solutions.{solution_none, solution_some}
use Rattle.least.proofs.climb.Goals as goal
use Rattle.least.proofs.climb.Goals.{then-next-t-2-via-else-next-t-2+then-next-limit, then-next-t-2-via-then-next-t-2}
use Rattle.least.specs.Least.{Least, Rising, Unsolved}

pub returns-then-next-t : goal.returns-then-next-t
returns-then-next-t g c =
    let rule : ℕ → ℕ = g.R.Rule.value c.args.rule.now in
    let found : Rising rule → Least rule (min c.args.limit 10000000) c.loop-t.t =
    λ up. record { low = c.loop-t.invariant.0; high = omega (arith, c.min-limit.ensures); solves = sym c.at-next.ensures ∙ c.if-next-t.true; first = c.loop-t.invariant.1 up } in
    record { answer = λ up. sym (solution_some rule _ _ (found up)); least = found }

pub returns-then-next-t-2 : goal.returns-then-next-t-2
returns-then-next-t-2 g c =
    let rule : ℕ → ℕ = g.R.Rule.value c.args.rule.now in
    let t = c.loop-t.t in
    let past : Rising rule → (s : ℕ) → 1 ≤ s → rule s ≡ s → rule t ≤ s =
    λ up s low e. omega (arith, up.rises t s (c.loop-t.invariant.1 up s low e), e) in
    let none : Rising rule → Unsolved rule (min c.args.limit 10000000) =
    λ up s low high e.
    elim c.then-next-t-2.branch [
      | then-next-t-2-via-then-next-t-2 w ↦ omega (arith, not_below rule up t c.loop-t.invariant.0 (c.loop-t.invariant.1 up), w.if-next-t-2.true, c.at-next.ensures)
      | then-next-t-2-via-else-next-t-2+then-next-limit w ↦ omega (arith, past up s low e, w.if-next-limit.true, c.at-next.ensures, c.min-limit.ensures)
    ] in
    record { answer = λ up. sym (solution_none rule _ (none up)); least = none }

pub returns : goal.returns
returns g c =
    let rule : ℕ → ℕ = g.R.Rule.value c.args.rule.now in
    let none : Rising rule → Unsolved rule (min c.args.limit 10000000) =
    λ up s low high e. omega (arith, c.loop-t.invariant.1 up s low e, c.loop-t-test.false, c.min-limit.ensures) in
    record { answer = λ up. sym (solution_none rule _ (none up)); least = none }
