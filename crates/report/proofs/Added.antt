-- Text added part after part is the parts laid one after another.
use Rattle.std.proofs.Common.{◌≡◌, ℕ, ◌+◌, List, ◌++◌, sym, ap, ◌∙◌}
use Rattle.std.proofs.lemmas.List.{append_assoc, append-nil}
use Rattle.tablefile.proofs.Laid.{laid_more, laid_none}
use Rattle.tablefile.specs.Parts.{laid}

pub added_none : (s : List ℕ) (f : ℕ → List ℕ) → s ≡ s ++ laid 0 f
added_none s f = sym (append-nil s) ∙ ap (λ z. s ++ z) (sym (laid_none f))

pub added_more : (s u t : List ℕ) (k : ℕ) (f : ℕ → List ℕ) → u ≡ s ++ laid k f → t ≡ u ++ f k → t ≡ s ++ laid (k + 1) f
added_more s u t k f p q = q ∙ ap (λ z. z ++ f k) p ∙ append_assoc s (laid k f) (f k) ∙ ap (λ z. s ++ z) (sym (laid_more k f))

-- parts of a line

pub then : (s u t a b : List ℕ) → u ≡ s ++ a → t ≡ u ++ b → t ≡ s ++ (a ++ b)
then s u t a b p q = q ∙ ap (λ z. z ++ b) p ∙ append_assoc s a b

pub five : (t₀ t₁ t₂ t₃ t₄ t₅ a b c d e : List ℕ) → t₁ ≡ t₀ ++ a → t₂ ≡ t₁ ++ b → t₃ ≡ t₂ ++ c → t₄ ≡ t₃ ++ d → t₅ ≡ t₄ ++ e → t₅ ≡ t₀ ++ (a ++ (b ++ (c ++ (d ++ e))))
five t₀ t₁ t₂ t₃ t₄ t₅ a b c d e p q r u v = then t₀ t₁ t₅ a (b ++ (c ++ (d ++ e))) p (then t₁ t₂ t₅ b (c ++ (d ++ e)) q (then t₂ t₃ t₅ c (d ++ e) r (then t₃ t₄ t₅ d e u v)))

pub eight : (t₀ t₁ t₂ t₃ t₄ t₅ t₆ t₇ t₈ a b c d e f g h : List ℕ) → t₁ ≡ t₀ ++ a → t₂ ≡ t₁ ++ b → t₃ ≡ t₂ ++ c → t₄ ≡ t₃ ++ d → t₅ ≡ t₄ ++ e → t₆ ≡ t₅ ++ f → t₇ ≡ t₆ ++ g → t₈ ≡ t₇ ++ h → t₈ ≡ t₀ ++ (a ++ (b ++ (c ++ (d ++ (e ++ (f ++ (g ++ h)))))))
eight t₀ t₁ t₂ t₃ t₄ t₅ t₆ t₇ t₈ a b c d e f g h p q r u v w x y =
    then t₀ t₁ t₈ a (b ++ (c ++ (d ++ (e ++ (f ++ (g ++ h)))))) p
    (then t₁ t₂ t₈ b (c ++ (d ++ (e ++ (f ++ (g ++ h))))) q
    (then t₂ t₃ t₈ c (d ++ (e ++ (f ++ (g ++ h)))) r
    (five t₃ t₄ t₅ t₆ t₇ t₈ d e f g h u v w x y)))
