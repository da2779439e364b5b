use Rattle.std.proofs.Common.{◌≡◌, ℕ, ◌+◌, ◌%◌, List, [], ◌∷◌, sum, ap, ◌∙◌, arith, rules}
use Rattle.std.proofs.lemmas.List.Sums.{sum_by-cons}
use Rattle.std.specs.List.{fold}
use Rattle.tablefile.proofs.check.reckon_check.Goals as goal
use Rattle.tablefile.specs.Check.{check_of}

wrapped : (a s : ℕ) (bs : List ℕ) → s ≡ a % 65536 → fold (λ s b. (s + b) % 65536) s bs ≡ (a + sum bs) % 65536
wrapped a s [] e = omega arith
wrapped a s (b ∷ bs) e = wrapped (a + b) ((s + b) % 65536) bs (omega arith) ∙ ap (λ n. n % 65536) (omega (arith, sum_by-cons (λ x. x) b bs))

pub returns : goal.returns
unfolding check_of
returns c =
    let bs = c.args.bytes.now in
    let folded : c.fold.result ≡ fold (λ s b. (s + b) % 65536) 0 bs = search rules in
    folded ∙ wrapped 0 0 bs (omega arith) ∙ ap (λ n. n % 65536) (omega arith)
