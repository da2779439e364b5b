-- Zeros, and parts of which the last are zeros.
use Rattle.std.proofs.Common.{◌≡◌, ℕ, zero, suc, ◌+◌, ◌-◌, ◌*◌, ◌≤◌, true, List, ◌++◌, length, drop, sym, refl, ap, ◌∙◌, mul-zero, arith}
use Rattle.std.proofs.Math.Nat.{mul-suc}
use Rattle.std.proofs.lemmas.List.{append_assoc, append-nil, drop-replicate, length-replicate, replicate-append-replicate}
use Rattle.tablefile.proofs.Laid.{laid_more}
use Rattle.tablefile.specs.Parts.{all_zero, laid, zeros}

pub length_zeros : (n : ℕ) → length (zeros n) ≡ n
unfolding zeros
length_zeros n = length-replicate n 0

pub drop_zeros : (m n : ℕ) → drop m (zeros n) ≡ zeros (n - m)
unfolding zeros
drop_zeros m n = drop-replicate m n 0

pub all_zeros : (n : ℕ) → all_zero (zeros n) ≡ true
unfolding zeros
all_zeros zero = refl
all_zeros (suc n) = all_zeros n

pub zeros_more : (n m : ℕ) → zeros n ++ zeros m ≡ zeros (n + m)
unfolding zeros
zeros_more n m = replicate-append-replicate n m 0

-- the places from c on are zeros
pub laid_rest : (w c m : ℕ) (f : ℕ → List ℕ) → ((k : ℕ) → c ≤ k → f k ≡ zeros w) → laid (c + m) f ≡ laid c f ++ zeros (w * m)
unfolding zeros
laid_rest w c zero f e =
    let none : c + 0 ≡ c = omega arith in
    ap (λ k. laid k f) none ∙ sym (ap (λ k. laid c f ++ zeros k) (mul-zero w) ∙ append-nil (laid c f))
laid_rest w c (suc m) f e =
    let one : c + suc m ≡ c + m + 1 = omega arith in
    ap (λ k. laid k f) one ∙ laid_more (c + m) f
    ∙ ap (λ xs. xs ++ f (c + m)) (laid_rest w c m f e) ∙ ap (λ xs. (laid c f ++ zeros (w * m)) ++ xs) (e (c + m) (omega arith))
    ∙ append_assoc (laid c f) (zeros (w * m)) (zeros w) ∙ ap (λ xs. laid c f ++ xs) (zeros_more (w * m) w ∙ ap zeros (sym (mul-suc w m)))
