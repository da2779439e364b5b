-- The resources that a board lacks come after those that it has.
use Rattle.std.proofs.Common.{◌≡◌, ℕ, zero, suc, ◌+◌, ◌<◌, Bool, true, false, ◌&&◌, eqb, ltb, List, [], ◌∷◌, length, get_or, drop, refl, sym, ap, ◌∙◌, arith}
use Rattle.std.proofs.Math.Seq.{drop-nil}
use Rattle.std.specs.List.{list_all}
use Rattle.table.specs.Limits.{all_had, none_lacking}

drop_had : (h a b c d : ℕ) → list_all (λ x. eqb x 0) (drop h (a ∷ b ∷ c ∷ d ∷ [])) ≡ all_had h (a ∷ b ∷ c ∷ d ∷ [])
drop_had zero a b c d = grind arith
drop_had (suc zero) a b c d = grind arith
drop_had (suc (suc zero)) a b c d = grind arith
drop_had (suc (suc (suc zero))) a b c d = grind arith
drop_had (suc (suc (suc (suc h)))) a b c d = ap (list_all (λ x. eqb x 0)) (drop-nil h) ∙ grind arith

pub all_had_is : (h : ℕ) (xs : List ℕ) → length xs ≡ 4 → list_all (λ x. eqb x 0) (drop h xs) ≡ all_had h xs
all_had_is h [] l = absurd (omega (arith, l))
all_had_is h (a ∷ []) l = absurd (omega (arith, l))
all_had_is h (a ∷ b ∷ []) l = absurd (omega (arith, l))
all_had_is h (a ∷ b ∷ c ∷ []) l = absurd (omega (arith, l))
all_had_is h (a ∷ b ∷ c ∷ d ∷ []) l = drop_had h a b c d
all_had_is h (a ∷ b ∷ c ∷ d ∷ e ∷ xs) l = absurd (omega (arith, l))
