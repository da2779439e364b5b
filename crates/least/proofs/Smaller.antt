-- A rising rule that does not exceed t has a solution no later than t: go down from t to what the rule gives there,
-- again and again; the numbers fall, and stay at least 1, until the rule gives the number itself. So a rule below
-- another has no later solution.
use Rattle.std.proofs.Common.{◌≡◌, ℕ, zero, suc, ◌≤◌, Some, None, Option, refl, inl, inr, arith}
use Rattle.least.proofs.Solutions.{solution_least}
use Rattle.least.specs.Least.{AnswersLeast, Least, NoSolutionBelow, Rising, Unsolved, solution}
use Rattle.std.proofs.lemmas.Option.{MatchOption-at_some}
use Rattle.std.proofs.lemmas.Bool.{cases_eq, cases_lt}

-- a solution no later than t
abbrev pub SolvedBy : (ℕ → ℕ) → ℕ → Type 0
SolvedBy rule t = (s : ℕ) × (1 ≤ s) × (s ≤ t) × (rule s ≡ s)

-- it descends from t to a solution
pub descends : (rule : ℕ → ℕ) → Rising rule → (n t : ℕ) → t ≤ n → 1 ≤ t → rule t ≤ t → SolvedBy rule t
descends rule up zero t few low h = absurd (omega arith)
descends rule up (suc n) t few low h =
    elim (cases_eq (rule t) t) [
      | inl same ↦ (t, low, omega arith, same)
      | inr other ↦
          let low' : 1 ≤ rule t = omega (arith, up.starts, up.rises 1 t low) in
          let p = descends rule up n (rule t) (omega arith) low' (up.rises (rule t) t h) in
          (p.0, p.1, (let k = p.2 in omega arith), p.3)
    ]

-- below its solutions a rising rule does not fall short of t
pub not_below : (rule : ℕ → ℕ) → Rising rule → (t : ℕ) → 1 ≤ t → NoSolutionBelow rule t → t ≤ rule t
not_below rule up t low none =
    elim (cases_lt (rule t) t) [
      | inl less ↦
          let low' : 1 ≤ rule t = omega (arith, up.starts, up.rises 1 t low) in
          let p = descends rule up (rule t) (rule t) (omega arith) low' (up.rises (rule t) t (omega arith)) in
          absurd (omega (arith, none p.0 p.1 p.3, p.2))
      | inr enough ↦ enough
    ]

named : (rule : ℕ → ℕ) (limit t : ℕ) → SolvedBy rule t → t ≤ limit → (o : Option ℕ) → solution rule limit ≡ o → AnswersLeast rule limit o → (s : ℕ) × (solution rule limit ≡ Some s) × (s ≤ t)
named rule limit t p h None e c = absurd (c p.0 p.1 (let k = p.2 in omega arith) p.3)
named rule limit t p h (Some s) e c = (s, e, omega (arith, c.first p.0 p.1 p.3, p.2))

-- a smaller rule that rises has a solution no later than the other's
pub smaller_solution : (f g : ℕ → ℕ) (limit : ℕ) → Rising f → ((t : ℕ) → f t ≤ g t) → (t : ℕ) → solution g limit ≡ Some t → (s : ℕ) × (solution f limit ≡ Some s) × (s ≤ t)
smaller_solution f g limit up le t e =
    let G = MatchOption-at_some (Unsolved g limit) (Least g limit) t e (solution_least g limit) in
    let p = descends f up t t (omega arith) G.low (omega (arith, le t, G.solves)) in
    named f limit t p G.high (solution f limit) refl (solution_least f limit)
