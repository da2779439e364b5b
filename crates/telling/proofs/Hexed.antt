-- Bytes in lines: the first line, and the rest.
use Rattle.std.proofs.Common.{◌≡◌, ℕ, suc, ◌+◌, ◌/◌, ◌<◌, min, List, [], ◌++◌, codes, drop, length, take, sym, refl, ap, ◌∙◌, inl, inr, arith}
use Rattle.std.proofs.lemmas.Bool.{cases_lt}
use Rattle.std.proofs.lemmas.List.{append-nil, drop_all, drop_at, length-append, nil_from_length, take_all, take_at}
use Rattle.telling.specs.Hex.{bytes_text, line_text, lines_text}

pub bytes_none : bytes_text [] ≡ []
unfolding bytes_text lines_text
bytes_none = refl

module _ (all chunk rest : List ℕ) (parts : all ≡ chunk ++ rest) (wide : length chunk ≡ min 16 (length all)) where
  sum : length all ≡ length chunk + length rest
  sum = ap length parts ∙ length-append chunk rest

  front : take 16 all ≡ chunk
  front = elim (cases_lt (length all) 16) [
    | inl short ↦
        let none : rest ≡ [] = nil_from_length rest (omega (arith, sum)) in
        take_all 16 all (omega arith) ∙ parts ∙ ap (λ xs. chunk ++ xs) none ∙ append-nil chunk
    | inr long ↦ ap (take 16) parts ∙ take_at chunk rest 16 (omega (arith, wide))
  ]

  back : drop 16 all ≡ rest
  back = elim (cases_lt (length all) 16) [
    | inl short ↦ drop_all 16 all (omega arith) ∙ sym (nil_from_length rest (omega (arith, sum)))
    | inr long ↦ ap (drop 16) parts ∙ drop_at chunk rest 16 (omega (arith, wide))
  ]

  pub bytes_first : 0 < length all → bytes_text all ≡ (line_text chunk ++ codes "\n") ++ bytes_text rest
  unfolding bytes_text lines_text
  bytes_first some =
      let more : (length all + 15) / 16 ≡ suc ((length rest + 15) / 16) = omega (arith, sum, wide) in
      ap (λ n. lines_text n all) more
      ∙ ap (λ xs. (line_text xs ++ codes "\n") ++ lines_text ((length rest + 15) / 16) (drop 16 all)) front
      ∙ ap (λ xs. (line_text chunk ++ codes "\n") ++ lines_text ((length rest + 15) / 16) xs) back
