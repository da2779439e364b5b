-- A block up to its check: a header, the records, and then zeros.
use Rattle.std.proofs.Common.{◌≡◌, ℕ, ◌+◌, ◌-◌, ◌*◌, ◌≤◌, List, [], ◌∷◌, ◌++◌, length, sym, ap, ◌∙◌, arith}
use Rattle.std.proofs.lemmas.List.{append_assoc}
use Rattle.table.specs.declared.board.Board.{Board}
use Rattle.tablefile.proofs.Laid.{laid_into}
use Rattle.tablefile.proofs.Placed.{place_out}
use Rattle.tablefile.proofs.Zeros.{drop_zeros, laid_rest, zeros_more}
use Rattle.tablefile.specs.Layout.{front_bytes, place_bytes}
use Rattle.tablefile.specs.Parts.{laid, zeros}
use Rattle.tablefile.specs.Spelling.{spelled}
use Rattle.tablefile.specs.declared.records.Record.{Record}

abbrev pub header : Board → ℕ → List Record → List ℕ
header board k rs = spelled 2 k ++ (length rs ∷ board.cores ∷ board.resources ∷ 0 ∷ 0 ∷ 0 ∷ [])

module _ (board : Board) (k : ℕ) (rs : List Record) (few : length rs ≤ 10) where
  -- what stands up to the last record
  abbrev pub filled : List ℕ
  filled = header board k rs ++ laid (length rs) (place_bytes rs)

  pub front_is : front_bytes board k rs ≡ filled ++ zeros (502 - 48 * length rs)
  unfolding front_bytes
  front_is =
      let c = length rs in
      let m = 10 - c in
      let ten : 10 ≡ c + m = omega arith in
      let left : 48 * m + 22 ≡ 502 - 48 * c = omega arith in
      let places = laid c (place_bytes rs) in
      ap (λ n. header board k rs ++ (laid n (place_bytes rs) ++ zeros 22)) ten
      ∙ ap (λ xs. header board k rs ++ (xs ++ zeros 22)) (laid_rest 48 c m (place_bytes rs) (place_out rs))
      ∙ ap (λ xs. header board k rs ++ xs) (append_assoc places (zeros (48 * m)) (zeros 22) ∙ ap (λ xs. places ++ xs) (zeros_more (48 * m) 22 ∙ ap zeros left))
      ∙ sym (append_assoc (header board k rs) places (zeros (502 - 48 * c)))

  -- the same in a block whose check isn't written yet
  pub front_laid : laid_into (header board k rs) (zeros 504) 48 (place_bytes rs) (length rs) ≡ front_bytes board k rs ++ zeros 2
  front_laid =
      let c = length rs in
      let left : 504 - 48 * c ≡ 502 - 48 * c + 2 = omega arith in
      ap (λ xs. filled ++ xs) (drop_zeros (48 * c) 504 ∙ ap zeros left ∙ sym (zeros_more (502 - 48 * c) 2))
      ∙ sym (append_assoc filled (zeros (502 - 48 * c)) (zeros 2))
      ∙ ap (λ xs. xs ++ zeros 2) (sym front_is)
