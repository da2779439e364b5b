-- Bytes that spell a record are its bytes: nothing of them is lost.
use Rattle.std.proofs.Common.{◌≡◌, ℕ, ◌+◌, ◌*◌, ◌<◌, ◌≤◌, List, [], ◌∷◌, ◌++◌, length, get_or, take, drop, sym, refl, ap, ◌∙◌, subst, arith}
use Rattle.std.proofs.lemmas.List.{append-nil, drop-drop, get_or-drop, get_or-take, length-drop, length-take-le, take_all}
use Rattle.tablefile.proofs.Laid.{laid_cut, laid_same, part_laid}
use Rattle.tablefile.proofs.Spelled.{spelled_spells}
use Rattle.tablefile.specs.Layout.{record_bytes, word_in, words}
use Rattle.tablefile.specs.Parts.{laid, part}
use Rattle.tablefile.specs.Reading.{number_at, spelled_record}
use Rattle.tablefile.specs.Spelling.{spelled}

front_four : (bs : List ℕ) → 4 ≤ length bs → get_or bs 0 0 ∷ get_or bs 1 0 ∷ get_or bs 2 0 ∷ get_or bs 3 0 ∷ drop 4 bs ≡ bs
front_four [] h = absurd (omega arith)
front_four (a ∷ []) h = absurd (omega arith)
front_four (a ∷ b ∷ []) h = absurd (omega arith)
front_four (a ∷ b ∷ c ∷ []) h = absurd (omega arith)
front_four (a ∷ b ∷ c ∷ d ∷ bs) h = refl

-- the number at place k of those laid one after another
laid_number : (n k : ℕ) (g : ℕ → ℕ) → k < n → get_or (laid n (λ j. g j ∷ [])) k 0 ≡ g k
laid_number n k g h =
    let all = laid n (λ j. g j ∷ []) in
    let one : take 1 (drop (1 * k) (all ++ [])) ≡ g k ∷ [] = part_laid 1 n k (λ j. g j ∷ []) [] (λ j l. refl) h in
    let front : get_or (take 1 (drop k all)) 0 0 ≡ g k = ap (λ xs. get_or (take 1 (drop k xs)) 0 0) (sym (append-nil all)) ∙ ap (λ i. get_or (take 1 (drop i (all ++ []))) 0 0) (omega arith) ∙ ap (λ xs. get_or xs 0 0) one in
    ap (λ i. get_or all i 0) (omega arith) ∙ sym (get_or-drop k all 0 0) ∙ sym (get_or-take 1 (drop k all) 0 0 (omega arith)) ∙ front

module _ (bs : List ℕ) (long : length bs ≡ 48) (small : (i : ℕ) → get_or bs i 0 < 256) where
  abbrev eleven : List ℕ
  eleven = words (spelled_record bs).row.figures

  eleven_are : eleven ≡ laid 11 (λ k. number_at bs (4 * k + 4) ∷ [])
  unfolding laid
  eleven_are = refl

  four_small : (at i : ℕ) → i < 4 → get_or (part bs at 4) i 0 < 256
  four_small at i h = subst (λ b. b < 256) (sym (get_or-take 4 (drop at bs) i 0 h ∙ get_or-drop at bs i 0)) (small (at + i))

  word_again : (k : ℕ) → k < 11 → word_in eleven k ≡ take 4 (drop (4 * k) (drop 4 bs))
  word_again k h =
      let at = 4 * k + 4 in
      let four : length (part bs at 4) ≡ 4 = length-take-le 4 (drop at bs) (omega (arith, length-drop at bs, long)) in
      ap (λ xs. spelled 4 (get_or xs k 0)) eleven_are
      ∙ ap (spelled 4) (laid_number 11 k (λ j. number_at bs (4 * j + 4)) h)
      ∙ spelled_spells 4 (part bs at 4) four (four_small at)
      ∙ ap (λ n. take 4 (drop n bs)) (omega arith)
      ∙ ap (take 4) (sym (drop-drop (4 * k) 4 bs))

  rest_again : laid 11 (word_in eleven) ≡ drop 4 bs
  rest_again =
      laid_same 11 (word_in eleven) (λ k. take 4 (drop (4 * k) (drop 4 bs))) word_again
      ∙ laid_cut 4 11 (drop 4 bs)
      ∙ take_all 44 (drop 4 bs) (omega (arith, length-drop 4 bs, long))

  pub bytes_kept : record_bytes (spelled_record bs) ≡ bs
  unfolding record_bytes
  bytes_kept =
      ap (λ xs. get_or bs 0 0 ∷ get_or bs 1 0 ∷ get_or bs 2 0 ∷ get_or bs 3 0 ∷ xs) rest_again
      ∙ front_four bs (omega (arith, long))
