use Rattle.std.proofs.Common.{rules, ◌≡◌, ℕ, ◌+◌, ◌*◌, ◌^◌, ◌<◌, ◌≤◌, List, get_or, take, ◌∙◌, arith}
use Rattle.bounds.proofs.Totals.{folded}
use Rattle.bounds.proofs.load.summing.total.Goals as goal
use Rattle.bounds.specs.Adding.{sum_below}
use Rattle.bounds.specs.Sums.{sum_to}
use Rattle.std.specs.List.{fold}

-- the sum of n small numbers is small
total_small : (n : ℕ) (xs : List ℕ) → n ≤ 4 → ((r : ℕ) → r < 4 → get_or xs r 0 ≤ 2 ^ 54) → sum_to n (λ k. get_or xs k 0) ≤ n * 2 ^ 54
total_small n xs few h = sum_below n (2 ^ 54) (λ k. get_or xs k 0) (λ k l. h k (omega arith))

pub sum-requires : goal.sum-requires
sum-requires c =
    let n = c.args.resources in
    let xs = c.args.xs.now in
    let small = total_small n xs c.requires.few c.requires.small in
    let fits : fold (λ a x. a + x) 0 (take n xs) < 2 ^ 64 = omega (arith, folded n xs (omega arith), small) in
    search rules

pub returns : goal.returns
returns c =
    let n = c.args.resources in
    let xs = c.args.xs.now in
    let small = total_small n xs c.requires.few c.requires.small in
    let sum : c.sum.result ≡ fold (λ a x. a + x) 0 (take n xs) = search rules in
    let value : c.sum.result ≡ sum_to n (λ k. get_or xs k 0) = sum ∙ folded n xs (omega arith) in
    record { value = value; small = omega (arith, value, small) }
