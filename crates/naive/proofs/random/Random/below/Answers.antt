use Rattle.naive.proofs.random.Random.below.Goals as goal
use Rattle.naive.specs.Draws.{drawn, mixed, moved}
use Rattle.std.proofs.Common.{◌≡◌, ℕ, ◌<◌, ◌%◌, ◌==◌, arith}
use Rattle.std.proofs.lemmas.Bool.{cond-false, cond-true, eq-eqb, ne_eqb}

drawn_none : (n bound : ℕ) → bound ≡ 0 → drawn n bound ≡ 0
unfolding drawn
drawn_none n bound e = cond-true (bound == 0) 0 (mixed (moved n) % bound) (eq-eqb bound 0 e)

drawn_some : (n bound : ℕ) → 0 < bound → drawn n bound ≡ mixed (moved n) % bound
unfolding drawn
drawn_some n bound l = cond-false (bound == 0) 0 (mixed (moved n) % bound) (ne_eqb bound 0 (λ e. omega arith))

pub returns-then-bound-eq0-clause-answer : goal.returns-then-bound-eq0-clause-answer
returns-then-bound-eq0-clause-answer c = grind (arith, drawn_none)

pub returns-clause-answer : goal.returns-clause-answer
returns-clause-answer c = grind (arith, drawn_some)
