-- What `first_that` finds: by induction over the numbers that were looked at, the first that passes, and none exactly
-- when none of them does.
use Rattle.std.proofs.Common.{◌≡◌, ℕ, zero, suc, ◌+◌, ◌-◌, ◌<◌, ◌≤◌, Bool, true, false, cond, [], ◌∷◌, map, Some, None, Option, sym, refl, ap, ◌∙◌, subst, ⊎_elim, suc-add, zero-add, add-one, arith}
use Rattle.std.proofs.lemmas.Bool.{both_ways, cases_lt}
use Rattle.std.proofs.lemmas.List.Folds.{find-append}
use Rattle.std.proofs.lemmas.List.FromFn.{map-range_with_len_more}
use Rattle.std.specs.List.{find, range_with_len}
use Rattle.std.specs.Option.{option_or}
use Rattle.table.specs.Firsts.{first_that, or_else}

module _ (test : ℕ → Bool) where
  -- no number below n passes
  abbrev pub NoneBelow : ℕ → Type 0
  NoneBelow n = (j : ℕ) → j < n → test j ≡ true → ⊥

  -- what is known of the first below n
  abbrev pub FirstBelow : ℕ → Option ℕ → Type 0
  FirstBelow n None = NoneBelow n
  FirstBelow n (Some k) = (k < n) × (test k ≡ true) × NoneBelow k

  step : (n : ℕ) (o : Option ℕ) → FirstBelow n o → FirstBelow (suc n) (or_else o (test n) n)
  step n (Some k) h = (omega arith, h.1, h.2)
  step n None h = go (test n) refl
    where
      go : (b : Bool) → test n ≡ b → FirstBelow (suc n) (cond b (Some n) None)
      go true e = (omega arith, e, h)
      go false e = λ j l passes. ⊎_elim
          (λ below. h j below passes)
          (λ last. let z : j ≡ n = omega arith in both_ways (test n) e (subst (λ x. test x ≡ true) z passes))
          (cases_lt j n)

  pub first_is : (n : ℕ) → FirstBelow n (first_that test n)
  unfolding first_that
  first_is zero = λ j l. absurd (omega arith)
  first_is (suc n) = step n (first_that test n) (first_is n)

  -- the steps of a loop that looks for it

  pub first_none : first_that test 0 ≡ None
  unfolding first_that
  first_none = refl

  pub first_yes : (n : ℕ) → first_that test n ≡ None → test n ≡ true → first_that test (n + 1) ≡ Some n
  unfolding first_that
  first_yes n e passes = rw (add-one, e, passes)

  pub first_no : (n : ℕ) → first_that test n ≡ None → test n ≡ false → first_that test (n + 1) ≡ None
  unfolding first_that
  first_no n e passes = rw (add-one, e, passes)

  stays : (n k m : ℕ) → first_that test n ≡ Some k → first_that test (m + n) ≡ Some k
  unfolding first_that
  stays n k zero e = rw zero-add e
  stays n k (suc m) e = rw (suc-add, stays n k m e)

  -- once there is one, more numbers change nothing
  pub first_stays : (n m k : ℕ) → n ≤ m → first_that test n ≡ Some k → first_that test m ≡ Some k
  first_stays n m k l e = let z : (m - n) + n ≡ m = omega arith in subst (λ x. first_that test x ≡ Some k) z (stays n k (m - n) e)

  -- to find it is to look through the numbers in turn
  one_more : (o : Option ℕ) (n : ℕ) → option_or o (find test (n ∷ [])) ≡ or_else o (test n) n
  one_more None n = refl
  one_more (Some k) n = refl

  pub find_first : (n : ℕ) → find test (map (λ k. k) (range_with_len 0 n)) ≡ first_that test n
  unfolding first_that
  find_first zero = refl
  find_first (suc n) =
      ap (λ m. find test (map (λ k. k) (range_with_len 0 m))) (sym (add-one n))
      ∙ ap (find test) (map-range_with_len_more (λ k. k) 0 n n (zero-add n))
      ∙ find-append test (map (λ k. k) (range_with_len 0 n)) (n ∷ [])
      ∙ ap (λ o. option_or o (find test (n ∷ []))) (find_first n)
      ∙ one_more (first_that test n) n
