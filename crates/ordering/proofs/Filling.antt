-- The steps of the loop that fills places: what is placed and tried so far, put before what the rest comes to, is the
-- whole search.
use Rattle.std.proofs.Common.{◌≡◌, ℕ, suc, ◌+◌, ◌-◌, ◌<◌, ◌≤◌, List, [], ◌∷◌, ◌++◌, Some, None, sym, refl, ap, ◌∙◌, arith}
use Rattle.ordering.specs.Orders.{Answers}
use Rattle.ordering.specs.Search.{Outcome, after, fill, first_taker, ordered, place, refused, search_for, size, tried}
use Rattle.std.proofs.lemmas.List.{append_assoc, append-nil}
use Rattle.table.specs.Sets.{Set, without}

after_twice : (xs : List ℕ) (t k u : ℕ) (o : Outcome) → after xs t (after (k ∷ []) u o) ≡ after (xs ++ k ∷ []) (t + u) o
after_twice xs t k u (ordered ys v) =
    let p : xs ++ (k ∷ ys) ≡ (xs ++ k ∷ []) ++ ys = sym (append_assoc xs (k ∷ []) ys) in
    let q : t + (u + v) ≡ (t + u) + v = omega arith in
    cc
after_twice xs t k u (refused v left) = let q : t + (u + v) ≡ (t + u) + v = omega arith in cc

after_nothing : (o : Outcome) → after [] 0 o ≡ o
after_nothing (ordered ys u) = let z : 0 + u ≡ u = omega arith in cc
after_nothing (refused u left) = let z : 0 + u ≡ u = omega arith in cc

module _ (ask : Answers) where
  fill_taken : (U : Set) (m k : ℕ) → first_taker ask U ≡ Some k → fill ask U (suc m) ≡ after (k ∷ []) (tried U (Some k)) (fill ask (without U k) m)
  unfolding fill
  fill_taken U m k e = ap (λ o. place o (tried U o) (suc m) (λ j. fill ask (without U j) m)) e

  fill_nobody : (U : Set) (m : ℕ) → first_taker ask U ≡ None → fill ask U (suc m) ≡ refused (tried U None) (suc m)
  unfolding fill
  fill_nobody U m e = ap (λ o. place o (tried U o) (suc m) (λ j. fill ask (without U j) m)) e

  fill_zero : (U : Set) → fill ask U 0 ≡ ordered [] 0
  unfolding fill
  fill_zero U = refl

  pub fill_start : (U V : Set) (n : ℕ) → U ≡ V → n ≡ size U → after [] 0 (fill ask U (n - 0)) ≡ search_for ask V
  fill_start U V n e h =
      let z : n - 0 ≡ size U = omega arith in
      after_nothing (fill ask U (n - 0)) ∙ ap (fill ask U) z ∙ ap (λ W. fill ask W (size W)) e

  pub fill_next : (U : Set) (n p k t : ℕ) (xs : List ℕ) → p < n → first_taker ask U ≡ Some k → after xs t (fill ask U (n - p)) ≡ after (xs ++ k ∷ []) (t + tried U (Some k)) (fill ask (without U k) (n - (p + 1)))
  fill_next U n p k t xs l e =
      let z : n - p ≡ suc (n - (p + 1)) = omega arith in
      ap (λ m. after xs t (fill ask U m)) z ∙ ap (after xs t) (fill_taken U (n - (p + 1)) k e) ∙ after_twice xs t k (tried U (Some k)) (fill ask (without U k) (n - (p + 1)))

  pub fill_stuck : (U : Set) (n p t : ℕ) (xs : List ℕ) → p < n → first_taker ask U ≡ None → after xs t (fill ask U (n - p)) ≡ refused (t + tried U None) (n - p)
  fill_stuck U n p t xs l e =
      let z : n - p ≡ suc (n - (p + 1)) = omega arith in
      ap (λ m. after xs t (fill ask U m)) z ∙ ap (after xs t) (fill_nobody U (n - (p + 1)) e) ∙ ap (refused (t + tried U None)) (sym z)

  pub fill_done : (U : Set) (n p : ℕ) (xs : List ℕ) (t : ℕ) → n ≤ p → after xs t (fill ask U (n - p)) ≡ ordered xs t
  fill_done U n p xs t h =
      let z : n - p ≡ 0 = omega arith in
      let a : xs ++ [] ≡ xs = append-nil xs in
      let b : t + 0 ≡ t = omega arith in
      let both : ordered (xs ++ []) (t + 0) ≡ ordered xs t = cc in
      ap (λ m. after xs t (fill ask U m)) z ∙ ap (after xs t) (fill_zero U) ∙ both
