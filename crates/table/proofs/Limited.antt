-- What figures in limits keep: each test of `in_limits` as the fact that it tests.
use Rattle.std.proofs.Common.{◌≡◌, ℕ, zero, suc, ◌<◌, ◌≤◌, true, List, get_or, arith}
use Rattle.std.proofs.lemmas.Bool.{and_parts, leb-true}
use Rattle.table.specs.Limits.{all_small, in_limits}
use Rattle.table.specs.declared.row.Figures.{Figures}

-- what holds of 0, 1, 2 and 3 holds of each number below 4
pub below_four : (P : ℕ → Type 0) → P 0 → P 1 → P 2 → P 3 → (r : ℕ) → r < 4 → P r
below_four P a b c d zero h = a
below_four P a b c d (suc zero) h = b
below_four P a b c d (suc (suc zero)) h = c
below_four P a b c d (suc (suc (suc zero))) h = d
below_four P a b c d (suc (suc (suc (suc r)))) h = absurd (omega arith)

pub each_small : (xs : List ℕ) → all_small xs ≡ true → (r : ℕ) → r < 4 → get_or xs r 0 ≤ 10000000
each_small xs e =
    let p = and_parts _ _ e in
    let q = and_parts _ _ p.0 in
    let s = and_parts _ _ q.0 in
    below_four (λ r. get_or xs r 0 ≤ 10000000) (leb-true _ _ s.0) (leb-true _ _ s.1) (leb-true _ _ q.1) (leb-true _ _ p.1)

pub record Limited (f : Figures) : Type 0 where
  pub period_low : 1 ≤ f.period
  pub period_high : f.period ≤ 10000000
  pub deadline_low : 1 ≤ f.deadline
  pub deadline_high : f.deadline ≤ f.period
  pub cost_low : 1 ≤ f.cost
  pub cost_high : f.cost ≤ 10000000
  pub sensitivity_small : all_small f.sensitivity ≡ true
  pub stress_small : all_small f.stress ≡ true

pub limited : (f : Figures) → in_limits f ≡ true → Limited f
unfolding in_limits
limited f e =
    let h = and_parts _ _ e in
    let g = and_parts _ _ h.0 in
    let k = and_parts _ _ g.0 in
    let c = and_parts _ _ k.0 in
    let d = and_parts _ _ c.0 in
    let l = and_parts _ _ d.0 in
    let p = and_parts _ _ l.0 in
    record {
      period_low = leb-true _ _ p.0;
      period_high = leb-true _ _ p.1;
      deadline_low = leb-true _ _ l.1;
      deadline_high = leb-true _ _ d.1;
      cost_low = leb-true _ _ c.1;
      cost_high = leb-true _ _ k.1;
      sensitivity_small = g.1;
      stress_small = h.1;
    }
