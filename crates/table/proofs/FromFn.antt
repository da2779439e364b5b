-- An array that a closure makes, place by place. Where each call gives what a function of the place says and leaves the
-- closure as it was, the array is that function's values in turn.
use Rattle.std.proofs.Common.{◌≡◌, ℕ, zero, suc, ◌+◌, ◌<◌, ◌≤◌, List, map, get_or, sym, refl, subst, ◌∙◌, ⊎_elim, arith}
use Rattle.std.proofs.lemmas.List.FromFn.{fill_by_all}
use Rattle.std.proofs.lemmas.Bool.{cases_eq}
use Rattle.std.specs.Array.{IsFromFnResult, IsFromFnResultFrom}
use Rattle.std.specs.Fn.{Called, Mut}
use Rattle.std.specs.List.{range_with_len}

module _ {F B : Type 0} (g : Mut F (ℕ × Unit {0}) B) (h : ℕ → B) (f : F) (d : B)
    (call : (i : ℕ) (y : B) (q : F) → Called g f (i, tt) y q → (q ≡ f) × (y ≡ h i)) where
  places : (ys : List B) (i n : ℕ) (p : F) → p ≡ f → IsFromFnResultFrom g p ys i n → (k : ℕ) → i ≤ k → k < i + n → get_or ys k d ≡ h k
  places ys i zero p e w k low high = absurd (omega arith)
  places ys i (suc n) p e w k low high =
      let m = call i w.1 w.0 (subst (λ z. Called g z (i, tt) w.1 w.0) e w.3) in
      ⊎_elim
      (λ s. subst (λ x. get_or ys x d ≡ h x) (sym s) (w.2.1 d ∙ m.1))
      (λ other. places ys (i + 1) n w.0 m.0 w.4 k (omega (arith, other)) (omega arith))
      (cases_eq k i)

  -- the element of each place
  pub made_at : (ys : List B) (n : ℕ) → IsFromFnResult g f ys n → (k : ℕ) → k < n → get_or ys k d ≡ h k
  made_at ys n w k l = places ys 0 n f refl w.each k (omega arith) (omega (arith, l))

  pub from_fn_same : (ys : List B) (n : ℕ) → IsFromFnResult g f ys n → ys ≡ map h (range_with_len 0 n)
  from_fn_same ys n w = fill_by_all h ys n d w.long (made_at ys n w)
