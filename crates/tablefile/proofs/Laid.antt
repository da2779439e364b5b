-- Parts of one width laid one after another.
use Rattle.std.proofs.Common.{◌≡◌, ℕ, zero, suc, ◌+◌, ◌*◌, ◌<◌, ◌≤◌, List, [], ◌∷◌, ◌++◌, length, get_or, take, drop, sym, refl, ap, ◌∙◌, subst, ⊎_elim, mul-zero, add-one, arith, take-add}
use Rattle.std.proofs.lemmas.List.{append_assoc, append-nil, drop_at, drop-drop, length-append, take_at, take_more}
use Rattle.std.proofs.Math.Nat.{mul-suc}
use Rattle.std.proofs.lemmas.Bool.{cases_lt}
use Rattle.tablefile.specs.Parts.{laid}
use borrow.Rule.Slice.PartMut.{put_mid}

pub laid_none : {X : Type 0} (f : ℕ → List X) → laid 0 f ≡ []
unfolding laid
laid_none f = refl

pub laid_more : {X : Type 0} (n : ℕ) (f : ℕ → List X) → laid (n + 1) f ≡ laid n f ++ f n
unfolding laid
laid_more n f = ap (λ k. laid k f) (add-one n)

pub laid_same : {X : Type 0} (n : ℕ) (f g : ℕ → List X) → ((k : ℕ) → k < n → f k ≡ g k) → laid n f ≡ laid n g
unfolding laid
laid_same zero f g e = refl
laid_same (suc n) f g e = ap (λ xs. xs ++ f n) (laid_same n f g (λ k h. e k (omega arith))) ∙ ap (λ xs. laid n g ++ xs) (e n (omega arith))

pub length_laid : {X : Type 0} (w n : ℕ) (f : ℕ → List X) → ((k : ℕ) → k < n → length (f k) ≡ w) → length (laid n f) ≡ w * n
unfolding laid
length_laid w zero f e = sym (mul-zero w)
length_laid w (suc n) f e =
    length-append (laid n f) (f n) ∙ omega (arith, length_laid w n f (λ k h. e k (omega arith)), e n (omega arith), mul-suc w n)

-- part k of those laid, and what stands after it
pub part_laid : {X : Type 0} (w n k : ℕ) (f : ℕ → List X) (rest : List X) → ((k : ℕ) → k < n → length (f k) ≡ w) → k < n → take w (drop (w * k) (laid n f ++ rest)) ≡ f k
unfolding laid
part_laid w zero k f rest e h = absurd (omega arith)
part_laid w (suc n) k f rest e h =
    let long : length (laid n f) ≡ w * n = length_laid w n f (λ j l. e j (omega arith)) in
    simp append_assoc (⊎_elim
    (λ lt. part_laid w n k f (f n ++ rest) (λ j l. e j (omega arith)) lt)
    (λ le. let same : n ≡ k = omega arith in
    subst (λ j. take w (drop (w * j) (laid n f ++ (f n ++ rest))) ≡ f j) same
    (ap (take w) (drop_at (laid n f) (f n ++ rest) (w * n) long) ∙ take_at (f n) rest w (e n (omega arith))))
    (cases_lt k n))

-- a list cut into parts, and joined again
pub laid_cut : {X : Type 0} (w n : ℕ) (xs : List X) → laid n (λ k. take w (drop (w * k) xs)) ≡ take (w * n) xs
unfolding laid
laid_cut w zero xs = ap (λ k. take k xs) (sym (mul-zero w))
laid_cut w (suc n) xs = ap (λ ys. ys ++ take w (drop (w * n) xs)) (laid_cut w n xs) ∙ sym (take-add (w * n) w xs) ∙ ap (λ k. take k xs) (sym (mul-suc w n))

pub laid_ones : {X : Type 0} (n : ℕ) (xs : List X) (d : X) → n ≤ length xs → laid n (λ k. get_or xs k d ∷ []) ≡ take n xs
unfolding laid
laid_ones zero xs d h = refl
laid_ones (suc n) xs d h = ap (λ ys. ys ++ (get_or xs n d ∷ [])) (laid_ones n xs d (omega arith)) ∙ sym (take_more xs n d (omega arith)) ∙ ap (λ k. take k xs) (add-one n)

-- a front, the parts laid after it, and then what stands there otherwise
abbrev pub laid_into : {X : Type 0} → List X → List X → ℕ → (ℕ → List X) → ℕ → List X
laid_into front rest w f i = (front ++ laid i f) ++ drop (w * i) rest

pub laid_into_none : {X : Type 0} (front rest : List X) (w : ℕ) (f : ℕ → List X) → laid_into front rest w f 0 ≡ front ++ rest
unfolding laid
laid_into_none front rest w f = ap (λ xs. xs ++ drop (w * 0) rest) (append-nil front) ∙ ap (λ k. front ++ drop k rest) (mul-zero w)

-- part i written after those before it
pub laid_into_more : {X : Type 0} (front rest bs : List X) (w : ℕ) (f : ℕ → List X) (i at k : ℕ) → ((j : ℕ) → length (f j) ≡ w) → at ≡ length front + w * i → k ≡ w → bs ≡ f i → put_mid at k (laid_into front rest w f i) bs ≡ laid_into front rest w f (i + 1)
laid_into_more front rest bs w f i at k e there wide is =
    let done = front ++ laid i f in
    let long : length done ≡ at = length-append front (laid i f) ∙ omega (arith, length_laid w i f (λ j _. e j)) in
    let more : w * i + w ≡ w * (i + 1) = sym (mul-suc w i) ∙ ap (λ n. w * n) (sym (add-one i)) in
    ap (λ xs. xs ++ (bs ++ drop k (drop at (done ++ drop (w * i) rest)))) (take_at done (drop (w * i) rest) at long)
    ∙ ap (λ xs. done ++ (bs ++ drop k xs)) (drop_at done (drop (w * i) rest) at long)
    ∙ ap (λ xs. done ++ (bs ++ xs)) (drop-drop k (w * i) rest ∙ ap (λ n. drop n rest) (ap (λ n. w * i + n) wide ∙ more))
    ∙ sym (append_assoc done bs (drop (w * (i + 1)) rest))
    ∙ ap (λ xs. xs ++ drop (w * (i + 1)) rest) (append_assoc front (laid i f) bs ∙ ap (λ xs. front ++ xs) (ap (λ b. laid i f ++ b) is ∙ sym (laid_more i f)))
