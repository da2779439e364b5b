-- Why the search decides. Of the test only one law is used: with fewer tasks above, a bound stays one.
-- If any order passes, its lowest task has a bound with all the others above it, so some task can take the lowest place,
-- and the first that can is no later than it. Whoever takes the place may be left out of that order, and the rest still
-- passes, since each task has only fewer above it: so the others have an order that passes, and the search goes on with
-- them. If it is refused later, no order passed from the beginning; if it finds an order, no other is earlier.
use Rattle.std.proofs.Common.{◌≡◌, ℕ, zero, suc, ◌<◌, Bool, true, false, cond, eqb, ◌⊎◌, List, [], ◌∷◌, is_some, Some, None, Option, sym, refl, ◌∙◌, subst, inl, inr, ⊎_elim, arith}
use Rattle.ordering.proofs.Listing.{leave_out, leave_within, order_cons, order_head, order_leave, order_tail}
use Rattle.ordering.proofs.Takers.{Took, took}
use Rattle.ordering.specs.Orders.{Answers, Earlier, FirstOrder, Impossible, OrderOf, Passes, named}
use Rattle.ordering.specs.Search.{DecidesOrder, Outcome, after, can_take, fill, first_taker, ordered, place, refused, search_for, size, tried}
use Rattle.std.proofs.lemmas.Bool.{and_from, and_parts, both_ways, cases_Bool, cases_order}
use Rattle.table.proofs.Firsts.{NoneBelow}
use Rattle.table.proofs.Flags.{count_no_member, count_none, count_without, without_within}
use Rattle.table.specs.Sets.{Set, Within, without}

-- only numbers below 64
abbrev pub MembersBelow : Set → Type 0
MembersBelow U = (k : ℕ) → U k ≡ true → k < 64

-- with fewer above, a bound stays one
abbrev pub FewerKeeps : Answers → Type 0
FewerKeeps ask = (i : ℕ) (G H : Set) → Within G H → is_some (ask i H) ≡ true → is_some (ask i G) ≡ true

module _ (ask : Answers) (fewer : FewerKeeps ask) where
  -- with one task left out, the others still pass
  passes_leave : (k : ℕ) (ys : List ℕ) → Passes ask ys → Passes ask (leave_out k ys)
  passes_leave k [] p = tt
  passes_leave k (y ∷ ys) p = go (eqb y k) (passes_leave k ys p.1)
    where
      go : (b : Bool) → Passes ask (leave_out k ys) → Passes ask (cond b (leave_out k ys) (y ∷ leave_out k ys))
      go true ih = ih
      go false ih = (fewer y (named (leave_out k ys)) (named ys) (leave_within k ys) p.0, ih)

  -- the lowest of an order that passes can take the lowest place
  lowest_can : (U : Set) (y : ℕ) (ys : List ℕ) → OrderOf U (y ∷ ys) → Passes ask (y ∷ ys) → can_take ask U y ≡ true
  lowest_can U y ys o p =
      and_from (U y) (is_some (ask y (without U y))) (order_head U y ys o) (fewer y (without U y) (named ys) (λ j h. (order_tail U y ys o).each j ∙ h) p.0)

  first_cons : (U : Set) (k : ℕ) (xs : List ℕ) → can_take ask U k ≡ true → NoneBelow (can_take ask U) k → FirstOrder ask (without U k) xs → FirstOrder ask U (k ∷ xs)
  first_cons U k xs can none b =
      record {
        order = order_cons U k xs parts.0 b.order;
        passes = (fewer k (named xs) (without U k) (λ j h. sym (b.order.each j) ∙ h) parts.1, b.passes);
        first = first;
      }
    where
      parts : (U k ≡ true) × (is_some (ask k (without U k)) ≡ true)
      parts = and_parts (U k) (is_some (ask k (without U k))) can

      go : (y : ℕ) (ys : List ℕ) → OrderOf U (y ∷ ys) → Passes ask (y ∷ ys) → (k ≡ y) ⊎ ((k < y) ⊎ (y < k)) → (y ∷ ys ≡ k ∷ xs) ⊎ Earlier (k ∷ xs) (y ∷ ys)
      go y ys o p (inl e) =
          ⊎_elim (λ h. inl (cc)) (λ h. inr (inr (e, h))) (b.first ys (subst (λ x. OrderOf (without U x) ys) (sym e) (order_tail U y ys o)) p.1)
      go y ys o p (inr (inl l)) = inr (inl l)
      go y ys o p (inr (inr l)) = absurd (none y l (lowest_can U y ys o p))

      first : (ys : List ℕ) → OrderOf U ys → Passes ask ys → (ys ≡ k ∷ xs) ⊎ Earlier (k ∷ xs) ys
      first [] o p = absurd (both_ways (U k) (sym (o.each k)) parts.0)
      first (y ∷ ys) o p = go y ys o p (cases_order k y)

  -- a place that is taken, and what the other places come to
  decides_after : (U : Set) (k t : ℕ) → can_take ask U k ≡ true → NoneBelow (can_take ask U) k → (o : Outcome) → DecidesOrder ask (without U k) o → DecidesOrder ask U (after (k ∷ []) t o)
  decides_after U k t can none (ordered xs u) b = first_cons U k xs can none b
  decides_after U k t can none (refused u left) b = λ ys o p. b (leave_out k ys) (order_leave U k ys o) (passes_leave k ys p)

  -- a place that nobody can take
  impossible : (U : Set) (n : ℕ) → MembersBelow U → size U ≡ suc n → NoneBelow (can_take ask U) 64 → Impossible ask U
  impossible U n m e none [] o p = omega (arith, count_none U 64 (λ j. sym (o.each j)))
  impossible U n m e none (y ∷ ys) o p = none y (m y (order_head U y ys o)) (lowest_can U y ys o p)

  decides_place : (U : Set) (n : ℕ) → MembersBelow U → size U ≡ suc n → ((V : Set) → MembersBelow V → size V ≡ n → DecidesOrder ask V (fill ask V n)) → (o : Option ℕ) → Took ask U o → DecidesOrder ask U (place o (tried U o) (suc n) (λ k. fill ask (without U k) n))
  decides_place U n m e ih (Some k) h =
      decides_after U k _ h.1 h.2 _ (ih (without U k) (λ j z. m j (without_within U k j z)) (omega (arith, count_without U k 64 h.0 (and_parts (U k) (is_some (ask k (without U k))) h.1).0)))
  decides_place U n m e ih None h = impossible U n m e h

  decides : (n : ℕ) (U : Set) → MembersBelow U → size U ≡ n → DecidesOrder ask U (fill ask U n)
  unfolding fill
  decides zero U m e =
      record { order = record { once = tt; each = λ k. sym (empty k) }; passes = tt; first = first }
    where
      empty : (k : ℕ) → U k ≡ false
      empty k = ⊎_elim (λ h. absurd (count_no_member U 64 k e (m k h) h)) (λ h. h) (cases_Bool (U k))

      first : (ys : List ℕ) → OrderOf U ys → Passes ask ys → (ys ≡ []) ⊎ Earlier [] ys
      first [] o p = inl refl
      first (y ∷ ys) o p = absurd (both_ways (U y) (empty y) (order_head U y ys o))
  decides (suc n) U m e = decides_place U n m e (λ V. decides n V) (first_taker ask U) (took ask U)

  -- the theorem
  pub search_decides : (U : Set) → MembersBelow U → DecidesOrder ask U (search_for ask U)
  search_decides U m = decides (size U) U m refl
