-- Sets as lists of flags. Flags made place by place from a set are that set; taking a number out clears its flag; and a
-- set is counted member by member.
use Rattle.std.proofs.Common.{◌≡◌, ℕ, zero, suc, ◌+◌, ◌-◌, ◌<◌, ◌≤◌, Bool, true, false, not, ◌&&◌, eqb, ◌⊎◌, List, map, length, get_or, set, sym, refl, ap, ◌∙◌, subst, inl, inr, ⊎_elim, suc-add, zero-add, add-one, arith}
use Rattle.std.proofs.lemmas.List.FromFn.{get_or-map-range_with_len, length-map-range_with_len}
use Rattle.std.proofs.lemmas.List.{get_or_past, get_or-set_other, get_or-set_same, set_past}
use Rattle.std.proofs.lemmas.Bool.{and_parts, cases_eq, cases_lt, eq-eqb, ne_eqb}
use Rattle.table.specs.Sets.{Set, Within, count_below, without}
use Rattle.std.specs.List.{range_with_len}
use mathlib.Core.Path.{fun_ext}

-- flags that were made place by place from a set of numbers below 64
pub flags_of : (f : Set) (flags : List Bool) → ((k : ℕ) → 64 ≤ k → f k ≡ false) → flags ≡ map f (range_with_len 0 64) → (λ k. get_or flags k false) ≡ f
flags_of f flags past e = fun_ext (λ k. ⊎_elim
    (λ below. ap (λ xs. get_or xs k false) e ∙ get_or-map-range_with_len f 0 64 k k false below (zero-add k))
    (λ out. get_or_past flags k false (omega (arith, ap length e ∙ length-map-range_with_len f 0 64)) ∙ sym (past k out))
    (cases_lt k 64))

-- one number less

and_false : (b : Bool) → (b && false) ≡ false
and_false true = refl
and_false false = refl

and_true : (b : Bool) → (b && true) ≡ b
and_true true = refl
and_true false = refl

pub without_at : (U : Set) (k : ℕ) → without U k k ≡ false
unfolding without
without_at U k = ap (λ b. U k && not b) (eq-eqb k k refl) ∙ and_false (U k)

pub without_other : (U : Set) (k j : ℕ) → (j ≡ k → ⊥) → without U k j ≡ U j
unfolding without
without_other U k j h = ap (λ b. U j && not b) (ne_eqb j k h) ∙ and_true (U j)

pub without_within : (U : Set) (k : ℕ) → Within (without U k) U
unfolding without
without_within U k j h = (and_parts (U j) (not (eqb j k)) h).0

-- a number that is not there is not taken out
pub without_none : (U : Set) (k : ℕ) → U k ≡ false → U ≡ without U k
without_none U k e = fun_ext (λ j. ⊎_elim
    (λ same. ap U same ∙ e ∙ sym (ap (without U k) same ∙ without_at U k))
    (λ other. sym (without_other U k j other))
    (cases_eq j k))

pub flag_cleared : (flags : List Bool) (k : ℕ) → (λ j. get_or (set flags k false) j false) ≡ without (λ j. get_or flags j false) k
flag_cleared flags k = ⊎_elim
    (λ l. fun_ext (go l))
    (λ out. ap (λ xs j. get_or xs j false) (set_past flags k false out) ∙ without_none (λ j. get_or flags j false) k (get_or_past flags k false out))
    (cases_lt k (length flags))
  where
    go : k < length flags → (j : ℕ) → get_or (set flags k false) j false ≡ without (λ i. get_or flags i false) k j
    go l j = ⊎_elim
        (λ e. subst (λ x. get_or (set flags k false) x false ≡ without (λ i. get_or flags i false) k x) (sym e) (get_or-set_same flags k false false l ∙ sym (without_at (λ i. get_or flags i false) k)))
        (λ n. get_or-set_other flags k j false false n ∙ sym (without_other (λ i. get_or flags i false) k j n))
        (cases_eq j k)

-- counting

pub count_in : (U : Set) (n : ℕ) → U n ≡ true → count_below U (suc n) ≡ count_below U n + 1
unfolding count_below
count_in U n e = rw e

pub count_out : (U : Set) (n : ℕ) → U n ≡ false → count_below U (suc n) ≡ count_below U n
unfolding count_below
count_out U n e = rw e

pub count_zero : (U : Set) → count_below U 0 ≡ 0
unfolding count_below
count_zero U = refl

pub count_in_more : (U : Set) (k n : ℕ) → n ≡ count_below U k → U k ≡ true → n + 1 ≡ count_below U (k + 1)
count_in_more U k n e h = ap (λ x. x + 1) e ∙ sym (count_in U k h) ∙ ap (count_below U) (sym (add-one k))

pub count_out_more : (U : Set) (k n : ℕ) → n ≡ count_below U k → U k ≡ false → n ≡ count_below U (k + 1)
count_out_more U k n e h = e ∙ sym (count_out U k h) ∙ ap (count_below U) (sym (add-one k))

by_member : (U : Set) (n : ℕ) (P : Type 0) → (U n ≡ true → P) → (U n ≡ false → P) → P
by_member U n P yes' no' = go (U n) refl
  where
    go : (b : Bool) → U n ≡ b → P
    go true e = yes' e
    go false e = no' e

count_grows : (U : Set) (n : ℕ) → count_below U n ≤ count_below U (suc n)
count_grows U n = by_member U n (count_below U n ≤ count_below U (suc n)) (λ e. omega (arith, count_in U n e)) (λ e. omega (arith, count_out U n e))

count_adds : (U : Set) (a n : ℕ) → count_below U a ≤ count_below U (n + a)
count_adds U a zero = rw zero-add (omega arith)
count_adds U a (suc n) = rw suc-add (omega (arith, count_adds U a n, count_grows U (n + a)))

pub count_rises : (U : Set) (a b : ℕ) → a ≤ b → count_below U a ≤ count_below U b
count_rises U a b l = let z : (b - a) + a ≡ b = omega arith in subst (λ x. count_below U a ≤ count_below U x) z (count_adds U a (b - a))

pub count_le : (U : Set) (n : ℕ) → count_below U n ≤ n
count_le U zero = omega (arith, count_zero U)
count_le U (suc n) = by_member U n (count_below U (suc n) ≤ suc n) (λ e. omega (arith, count_in U n e, count_le U n)) (λ e. omega (arith, count_out U n e, count_le U n))

pub count_same : (U V : Set) (n : ℕ) → ((j : ℕ) → j < n → U j ≡ V j) → count_below U n ≡ count_below V n
unfolding count_below
count_same U V zero h = refl
count_same U V (suc n) h = let e = h n (omega arith) in let r = count_same U V n (λ j l. h j (omega arith)) in rw (e, r)

count_step : (U V : Set) (n : ℕ) → U n ≡ V n → count_below U n ≡ count_below V n + 1 → count_below U (suc n) ≡ count_below V (suc n) + 1
count_step U V n e r = by_member U n (count_below U (suc n) ≡ count_below V (suc n) + 1) (λ h. omega (arith, count_in U n h, count_in V n (sym e ∙ h))) (λ h. omega (arith, count_out U n h, count_out V n (sym e ∙ h)))

-- taking a member out makes one less
pub count_without : (U : Set) (k n : ℕ) → k < n → U k ≡ true → count_below U n ≡ count_below (without U k) n + 1
count_without U k zero l e = absurd (omega arith)
count_without U k (suc n) l e = go (cases_lt k n) (λ m. count_without U k n m e)
  where
    go : (k < n) ⊎ (n ≤ k) → (k < n → count_below U n ≡ count_below (without U k) n + 1) → count_below U (suc n) ≡ count_below (without U k) (suc n) + 1
    go (inl m) ih = count_step U (without U k) n (sym (without_other U k n (λ z. omega arith))) (ih m)
    go (inr m) ih =
        let z : k ≡ n = omega arith in
        let a : U n ≡ true = subst (λ x. U x ≡ true) z e in
        let b : without U k n ≡ false = subst (λ x. without U k x ≡ false) z (without_at U k) in
        let same = count_same U (without U k) n (λ j h. sym (without_other U k j (λ y. omega arith))) in
        omega (arith, count_in U n a, count_out (without U k) n b, same)

pub count_none : (U : Set) (n : ℕ) → ((j : ℕ) → U j ≡ false) → count_below U n ≡ 0
count_none U zero h = count_zero U
count_none U (suc n) h = count_out U n (h n) ∙ count_none U n h

pub count_no_member : (U : Set) (n j : ℕ) → count_below U n ≡ 0 → j < n → U j ≡ true → ⊥
count_no_member U n j z l e = omega (arith, count_without U j n l e)
