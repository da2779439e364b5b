-- Numbers as bytes, and back.
use Rattle.std.proofs.Common.{◌≡◌, ℕ, zero, suc, ◌+◌, ◌*◌, ◌/◌, ◌%◌, ◌^◌, ◌<◌, List, [], ◌∷◌, ◌++◌, length, get_or, take, sym, refl, ap, ◌∙◌, subst, div-lt_iff_lt-mul, pow-suc, arith}
use Rattle.std.proofs.lemmas.Int.Digits.{number_push}
use Rattle.std.proofs.lemmas.List.{get_or-take, length_push, length-take-le, take_all, take_more}
use Rattle.tablefile.specs.Spelling.{spelled, spells}

pub length_spelled : (w n : ℕ) → length (spelled w n) ≡ w
length_spelled zero n = refl
length_spelled (suc w) n = length_push (spelled w (n / 256)) (n % 256) ∙ omega (arith, length_spelled w (n / 256))

-- what was written with a width that holds it is read back
pub spells_spelled : (w n : ℕ) → n < 256 ^ w → spells (spelled w n) ≡ n
spells_spelled zero n h = omega arith
spells_spelled (suc w) n h =
    let less : n / 256 < 256 ^ w = (div-lt_iff_lt-mul {k = 256} {x = n} {y = 256 ^ w} (omega arith)).1 (omega (arith, h, pow-suc 256 w)) in
    let back = spells_spelled w (n / 256) less in
    number_push 256 (spelled w (n / 256)) (n % 256) ∙ omega (arith, back)

-- bytes that were read are written the same
pub spelled_spells : (w : ℕ) (bs : List ℕ) → length bs ≡ w → ((i : ℕ) → i < w → get_or bs i 0 < 256) → spelled w (spells bs) ≡ bs
spelled_spells zero [] e small = refl
spelled_spells zero (b ∷ bs) e small = absurd (omega arith)
spelled_spells (suc w) bs e small =
    let init = take w bs in
    let last = get_or bs w 0 in
    let whole : init ++ (last ∷ []) ≡ bs = sym (take_more bs w 0 (omega arith)) ∙ take_all (w + 1) bs (omega arith) in
    let value : spells bs ≡ spells init * 256 + last = ap spells (sym whole) ∙ number_push 256 init last in
    let low : last < 256 = small w (omega arith) in
    let again = spelled_spells w init (length-take-le w bs (omega arith)) (λ i h. subst (λ b. b < 256) (sym (get_or-take w bs i 0 h)) (small i (omega arith))) in
    ap (λ n. spelled w n ++ (spells bs % 256 ∷ [])) (omega (arith, value, low))
    ∙ ap (λ b. spelled w (spells init) ++ (b ∷ [])) (omega (arith, value, low))
    ∙ ap (λ xs. xs ++ (last ∷ [])) again
    ∙ whole

pub four_spelled : (n : ℕ) → n / 16777216 % 256 ∷ n / 65536 % 256 ∷ n / 256 % 256 ∷ n % 256 ∷ [] ≡ spelled 4 n
four_spelled n =
    let a : n / 16777216 ≡ n / 256 / 256 / 256 = omega arith in
    let b : n / 65536 ≡ n / 256 / 256 = omega arith in
    ap (λ x. x % 256 ∷ n / 65536 % 256 ∷ n / 256 % 256 ∷ n % 256 ∷ []) a
    ∙ ap (λ x. n / 256 / 256 / 256 % 256 ∷ x % 256 ∷ n / 256 % 256 ∷ n % 256 ∷ []) b
