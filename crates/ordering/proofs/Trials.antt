-- How many tasks are tried: at a place no more than are left, so n, then n - 1, and so on.
use Rattle.std.proofs.Common.{◌≡◌, ℕ, zero, suc, ◌+◌, ◌*◌, ◌≤◌, List, [], ◌∷◌, is_some, Some, None, Option, refl, arith}
use Rattle.ordering.proofs.Takers.{Took, took, tried_le}
use Rattle.ordering.specs.Orders.{Answers}
use Rattle.ordering.specs.Search.{FewTrials, Outcome, after, fill, first_taker, ordered, place, refused, search_for, size, trials_of, tried}
use Rattle.std.proofs.lemmas.Bool.{and_parts}
use Rattle.table.proofs.Flags.{count_without}
use Rattle.table.specs.Sets.{Set, without}

trials_after : (xs : List ℕ) (t : ℕ) (o : Outcome) → trials_of (after xs t o) ≡ t + trials_of o
trials_after xs t (ordered ys u) = refl
trials_after xs t (refused u left) = refl

twice_more : (n t u : ℕ) → t ≤ suc n → 2 * u ≤ n * (n + 1) → 2 * (t + u) ≤ suc n * (suc n + 1)
twice_more n t u l h = omega arith

module _ (ask : Answers) where
  trials_place : (U : Set) (n : ℕ) → size U ≡ suc n → ((V : Set) → size V ≡ n → 2 * trials_of (fill ask V n) ≤ n * (n + 1)) → (o : Option ℕ) → Took ask U o → 2 * trials_of (place o (tried U o) (suc n) (λ k. fill ask (without U k) n)) ≤ suc n * (suc n + 1)
  trials_place U n e ih (Some k) h =
      rw (trials_after (k ∷ []) (tried U (Some k)) (fill ask (without U k) n))
      (twice_more n (tried U (Some k)) _ (omega (arith, tried_le ask U (Some k) h, e))
      (ih (without U k) (omega (arith, count_without U k 64 h.0 (and_parts (U k) (is_some (ask k (without U k))) h.1).0))))
  trials_place U n e ih None h = omega (arith, twice_more n (size U) 0 (omega arith) (omega arith))

  few : (n : ℕ) (U : Set) → size U ≡ n → 2 * trials_of (fill ask U n) ≤ n * (n + 1)
  unfolding fill
  few zero U e = omega arith
  few (suc n) U e = trials_place U n e (λ V. few n V) (first_taker ask U) (took ask U)

  pub search_few : (U : Set) → FewTrials U (search_for ask U)
  search_few U = omega (arith, few (size U) U refl)
