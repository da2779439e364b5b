-- Orders as lists: the lowest of an order put away leaves an order of the others, any task may be left out, and a task
-- put below an order of the others makes an order of all.
use Rattle.std.proofs.Common.{◌≡◌, ℕ, Bool, true, false, cond, ◌||◌, eqb, ◌⊎◌, List, [], ◌∷◌, sym, refl, ◌∙◌, subst, inl, inr, ⊎_elim}
use Rattle.ordering.specs.Orders.{Distinct, OrderOf, named}
use Rattle.std.proofs.lemmas.Bool.{both_ways, cases_eq, eq-eqb, eqb-false, eqb-true, ne_eqb, or_cases, or_left, or_right}
use Rattle.table.proofs.Flags.{without_at, without_other, without_within}
use Rattle.table.specs.Sets.{Set, Within, without}

or_false_left : (a b : Bool) → a ≡ false → (a || b) ≡ b
or_false_left a b e = rw e

pub named_head : (x : ℕ) (xs : List ℕ) → named (x ∷ xs) x ≡ true
named_head x xs = or_left (eqb x x) (named xs x) (eq-eqb x x refl)

pub named_later : (x : ℕ) (xs : List ℕ) (j : ℕ) → named xs j ≡ true → named (x ∷ xs) j ≡ true
named_later x xs j h = or_right (eqb j x) (named xs j) h

pub named_other : (x : ℕ) (xs : List ℕ) (k : ℕ) → (k ≡ x → ⊥) → named (x ∷ xs) k ≡ named xs k
named_other x xs k h = or_false_left _ _ (ne_eqb k x h)

pub named_either : (x : ℕ) (xs : List ℕ) (j : ℕ) → named (x ∷ xs) j ≡ true → named xs j ≡ false → j ≡ x
named_either x xs j h f = ⊎_elim (λ e. eqb-true j x e) (λ e. absurd (both_ways (named xs j) f e)) (or_cases (eqb j x) (named xs j) h)

pub order_head : (U : Set) (y : ℕ) (ys : List ℕ) → OrderOf U (y ∷ ys) → U y ≡ true
order_head U y ys o = sym (o.each y) ∙ named_head y ys

pub order_tail : (U : Set) (y : ℕ) (ys : List ℕ) → OrderOf U (y ∷ ys) → OrderOf (without U y) ys
order_tail U y ys o = record { once = o.once.1; each = λ k. go k (cases_eq k y) }
  where
    go : (k : ℕ) → (k ≡ y) ⊎ (k ≡ y → ⊥) → named ys k ≡ without U y k
    go k (inl e) = subst (λ x. named ys x ≡ without U y x) (sym e) (o.once.0 ∙ sym (without_at U y))
    go k (inr h) = sym (named_other y ys k h) ∙ o.each k ∙ sym (without_other U y k h)

pub order_cons : (U : Set) (k : ℕ) (xs : List ℕ) → U k ≡ true → OrderOf (without U k) xs → OrderOf U (k ∷ xs)
order_cons U k xs u o = record { once = (o.each k ∙ without_at U k, o.once); each = λ j. go j (cases_eq j k) }
  where
    go : (j : ℕ) → (j ≡ k) ⊎ (j ≡ k → ⊥) → named (k ∷ xs) j ≡ U j
    go j (inl e) = subst (λ x. named (k ∷ xs) x ≡ U x) (sym e) (named_head k xs ∙ sym u)
    go j (inr h) = named_other k xs j h ∙ o.each j ∙ without_other U k j h

-- a number left out of a list
abbrev pub leave_out : ℕ → List ℕ → List ℕ
leave_out k [] = []
leave_out k (y ∷ ys) = cond (eqb y k) (leave_out k ys) (y ∷ leave_out k ys)

without_same : (U V : Set) (k j : ℕ) → ((j ≡ k → ⊥) → U j ≡ V j) → without U k j ≡ without V k j
without_same U V k j h = go (cases_eq j k)
  where
    go : (j ≡ k) ⊎ (j ≡ k → ⊥) → without U k j ≡ without V k j
    go (inl e) = subst (λ x. without U k x ≡ without V k x) (sym e) (without_at U k ∙ sym (without_at V k))
    go (inr n) = without_other U k j n ∙ h n ∙ sym (without_other V k j n)

leave_step : (k y : ℕ) (ys : List ℕ) (j : ℕ) → named (leave_out k ys) j ≡ without (named ys) k j → named (leave_out k (y ∷ ys)) j ≡ without (named (y ∷ ys)) k j
leave_step k y ys j ih = go (eqb y k) refl (cases_eq j y)
  where
    go : (b : Bool) → eqb y k ≡ b → (j ≡ y) ⊎ (j ≡ y → ⊥) → named (cond b (leave_out k ys) (y ∷ leave_out k ys)) j ≡ without (named (y ∷ ys)) k j
    go true e c = ih ∙ without_same (named ys) (named (y ∷ ys)) k j (λ n. sym (named_other y ys j (λ z. n (z ∙ eqb-true y k e))))
    go false e (inl z) = or_left _ _ (eq-eqb j y z) ∙ sym (without_other (named (y ∷ ys)) k j (λ w. eqb-false y k e (sym z ∙ w)) ∙ or_left _ _ (eq-eqb j y z))
    go false e (inr n) = named_other y (leave_out k ys) j n ∙ ih ∙ without_same (named ys) (named (y ∷ ys)) k j (λ _. sym (named_other y ys j n))

without_empty : (k j : ℕ) → without (named []) k j ≡ false
unfolding without
without_empty k j = refl

named_leave : (k : ℕ) (ys : List ℕ) (j : ℕ) → named (leave_out k ys) j ≡ without (named ys) k j
named_leave k [] j = sym (without_empty k j)
named_leave k (y ∷ ys) j = leave_step k y ys j (named_leave k ys j)

pub leave_within : (k : ℕ) (ys : List ℕ) → Within (named (leave_out k ys)) (named ys)
leave_within k ys j h = without_within (named ys) k j (sym (named_leave k ys j) ∙ h)

false_within : (U V : Set) → Within U V → (j : ℕ) → V j ≡ false → U j ≡ false
false_within U V w j h = go (U j) refl
  where
    go : (b : Bool) → U j ≡ b → U j ≡ false
    go true e = absurd (both_ways _ h (w j e))
    go false e = e

distinct_leave : (k : ℕ) (ys : List ℕ) → Distinct ys → Distinct (leave_out k ys)
distinct_leave k [] d = tt
distinct_leave k (y ∷ ys) d = go (eqb y k) (distinct_leave k ys d.1)
  where
    go : (b : Bool) → Distinct (leave_out k ys) → Distinct (cond b (leave_out k ys) (y ∷ leave_out k ys))
    go true ih = ih
    go false ih = (false_within _ _ (leave_within k ys) y d.0, ih)

-- one task left out of an order is an order of the others
pub order_leave : (U : Set) (k : ℕ) (ys : List ℕ) → OrderOf U ys → OrderOf (without U k) (leave_out k ys)
order_leave U k ys o = record { once = distinct_leave k ys o.once; each = λ j. named_leave k ys j ∙ without_same (named ys) U k j (λ _. o.each j) }
