-- Laws of sums and of quotients rounded up. Each sum's law is an induction over how many terms it has.
use Rattle.std.specs.Prelude.{◌≡◌, ℕ, zero, suc, ◌+◌, ◌-◌, ◌*◌, ◌<◌, ◌≤◌, Bool, true, false, cond, refl}
use Rattle.bounds.specs.Demand.{releases}
use Rattle.bounds.specs.Sums.{sum_over, sum_to}
use Rattle.std.proofs.lemmas.Bool.{cases_eq, false≢true}
use Rattle.table.specs.Sets.{Set}
use Rattle.std.specs.Float.Ieee.Nearest.{div_mono}
use Rattle.std.proofs.Common.{inl, inr, subst, sym, le_refl, mul-le-mul, mul-suc, suc-mul, add-one, arith}
use Rattle.std.proofs.Math.Nat.{div-eq_of_lt, div-le_of_le-mul, div-zero}

pub sum_none : (f : ℕ → ℕ) → sum_to 0 f ≡ 0
unfolding sum_to
sum_none f = refl

pub sum_more : (n : ℕ) (f : ℕ → ℕ) → sum_to (n + 1) f ≡ sum_to n f + f n
unfolding sum_to
sum_more n f = rw add-one

pub sum_le : (n : ℕ) (f g : ℕ → ℕ) → ((k : ℕ) → k < n → f k ≤ g k) → sum_to n f ≤ sum_to n g
unfolding sum_to
sum_le zero f g h = omega arith
sum_le (suc n) f g h = omega (arith, sum_le n f g (λ k l. h k (omega arith)), h n (omega arith))

-- terms that are no larger and whose sum is no smaller are the same terms
pub sum_equal : (n : ℕ) (f g : ℕ → ℕ) → ((k : ℕ) → k < n → f k ≤ g k) → sum_to n g ≤ sum_to n f → (k : ℕ) → k < n → f k ≡ g k
unfolding sum_to
sum_equal zero f g le e k l = absurd (omega arith)
sum_equal (suc n) f g le e k l =
    let front : sum_to n f ≤ sum_to n g = sum_le n f g (λ j q. le j (omega arith)) in
    let last : f n ≤ g n = le n (omega arith) in
    elim (cases_eq k n) [
      | inl same ↦ subst (λ x. f x ≡ g x) (sym same) (let z : f n ≡ g n = omega arith in z)
      | inr other ↦ sum_equal n f g (λ j q. le j (omega arith)) (omega arith) k (omega arith)
    ]

pub sum_below : (n b : ℕ) (f : ℕ → ℕ) → ((k : ℕ) → k < n → f k ≤ b) → sum_to n f ≤ n * b
unfolding sum_to
sum_below zero b f h = omega arith
sum_below (suc n) b f h = omega (arith, sum_below n b f (λ k l. h k (omega arith)), h n (omega arith), suc-mul n b)

pub sum_same : (n : ℕ) (f g : ℕ → ℕ) → ((k : ℕ) → k < n → f k ≡ g k) → sum_to n f ≡ sum_to n g
unfolding sum_to
sum_same zero f g h = refl
sum_same (suc n) f g h = omega (arith, sum_same n f g (λ k l. h k (omega arith)), h n (omega arith))

-- over a set: term by term, and over fewer members

pub cond_le : (b : Bool) (x y : ℕ) → (b ≡ true → x ≤ y) → cond b x 0 ≤ cond b y 0
cond_le true x y h = h refl
cond_le false x y h = omega arith

cond_fewer : (b b' : Bool) (x : ℕ) → (b' ≡ true → b ≡ true) → cond b' x 0 ≤ cond b x 0
cond_fewer true true x h = le_refl x
cond_fewer true false x h = omega arith
cond_fewer false true x h = absurd (false≢true (h refl))
cond_fewer false false x h = le_refl 0

cond_same : (b b' : Bool) (x x' : ℕ) → b ≡ b' → (b ≡ true → x ≡ x') → cond b x 0 ≡ cond b' x' 0
cond_same true true x x' e h = h refl
cond_same true false x x' e h = absurd (false≢true (sym e))
cond_same false true x x' e h = absurd (false≢true e)
cond_same false false x x' e h = refl

pub over_le : (set : Set) (f g : ℕ → ℕ) → ((j : ℕ) → set j ≡ true → f j ≤ g j) → sum_over set f ≤ sum_over set g
over_le set f g h = sum_le 64 _ _ (λ j _. cond_le (set j) (f j) (g j) (h j))

pub over_fewer : (set fewer : Set) (f : ℕ → ℕ) → ((j : ℕ) → fewer j ≡ true → set j ≡ true) → sum_over fewer f ≤ sum_over set f
over_fewer set fewer f h = sum_le 64 _ _ (λ j _. cond_fewer (set j) (fewer j) (f j) (h j))

pub over_same : (set set' : Set) (f g : ℕ → ℕ) → ((j : ℕ) → set j ≡ set' j) → ((j : ℕ) → set j ≡ true → f j ≡ g j) → sum_over set f ≡ sum_over set' g
over_same set set' f g e h = sum_same 64 _ _ (λ j _. cond_same (set j) (set' j) (f j) (g j) (e j) (h j))

-- a share that one core is left out of

pub but_le : (b : Bool) (x y : ℕ) → x ≤ y → cond b 0 x ≤ cond b 0 y
but_le true x y h = omega arith
but_le false x y h = h

-- releases

pub releases_rise : (s t period : ℕ) → s ≤ t → releases s period ≤ releases t period
unfolding releases
releases_rise s t zero h = simp div-zero (omega arith)
releases_rise s t (suc c) h = div_mono (s + (suc c - 1)) (suc c) (t + (suc c - 1)) (suc c) (omega arith) (omega arith) (mul-le-mul (omega arith) (le_refl _))

-- a task is released at most once a unit of time
pub releases_le : (t period : ℕ) → 1 ≤ period → releases t period ≤ t
unfolding releases
releases_le zero zero h = absurd (omega arith)
releases_le (suc t) zero h = absurd (omega arith)
releases_le zero (suc c) h = omega (arith, div-eq_of_lt {n = 0 + (suc c - 1)} {m = suc c} (omega arith))
releases_le (suc t) (suc c) h = div-le_of_le-mul (suc c) (omega (arith, suc-mul c (suc t), mul-suc c t))

-- releases times a weight
pub times_le : (n w : ℕ) → n ≤ 20000000 → w ≤ 10000000 → n * w ≤ 200000000000000
times_le n w h k = mul-le-mul {n₁ = n} {m₁ = w} {n₂ = 20000000} {m₂ = 10000000} h k
