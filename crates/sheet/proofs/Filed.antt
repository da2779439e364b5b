-- The records that the steps of a load enter are the records of the file, in the same order.
use Rattle.std.proofs.Common.{◌≡◌, ℕ, zero, suc, ◌/◌, List, [], ◌∷◌, ◌++◌, length, refl, ap, ◌∙◌}
use Rattle.sheet.specs.Loading.{Step, block_steps, check, enter, filed, one_record, steps}
use Rattle.tablefile.proofs.Laid.{laid_same}
use Rattle.tablefile.specs.Parts.{laid}
use Rattle.tablefile.specs.Reading.{count_at, records_at, records_of}
use Rattle.tablefile.specs.declared.records.Record.{Record}

module _ (bytes : List ℕ) where
  abbrev pub records_in : List Step → List Record
  records_in [] = []
  records_in (check k ∷ xs) = records_in xs
  records_in (enter k p ∷ xs) = filed bytes k p ∷ records_in xs

  in_both : (xs ys : List Step) → records_in (xs ++ ys) ≡ records_in xs ++ records_in ys
  in_both [] ys = refl
  in_both (check k ∷ xs) ys = in_both xs ys
  in_both (enter k p ∷ xs) ys = ap (λ rs. filed bytes k p ∷ rs) (in_both xs ys)

  in_laid : (n : ℕ) (f : ℕ → List Step) → records_in (laid n f) ≡ laid n (λ k. records_in (f k))
  unfolding laid
  in_laid zero f = refl
  in_laid (suc n) f = in_both (laid n f) (f n) ∙ ap (λ rs. rs ++ records_in (f n)) (in_laid n f)

  in_block : (k : ℕ) → records_in (block_steps bytes k) ≡ records_at bytes k
  in_block k = in_laid (count_at bytes k) (one_record k)

  pub all_records : records_in (steps bytes) ≡ records_of bytes
  unfolding records_of
  all_records = in_laid (length bytes / 512) (block_steps bytes) ∙ laid_same (length bytes / 512) (λ k. records_in (block_steps bytes k)) (records_at bytes) (λ k l. in_block k)
