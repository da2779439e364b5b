-- A file that reads back passes, and its records are counted: one for each task, each the same as in the table.
use Rattle.std.proofs.Common.{◌≡◌, ℕ, zero, suc, ◌+◌, ◌/◌, ◌<◌, ◌≤◌, true, List, [], ◌∷◌, ◌++◌, length, get_or, drop, take, Ok, Err, Result, sym, refl, ap, ◌∙◌, subst, inl, inr, add-one, arith}
use Rattle.std.proofs.lemmas.Bool.{cases_lt}
use Rattle.std.proofs.lemmas.List.Elements.{All-drop, All-from_get_or, All-head, All-map, All-same, All-take}
use Rattle.std.proofs.lemmas.List.{drop_at, length-append, length-map, take_all, take_at}
use Rattle.std.specs.List.{All}
use Rattle.table.specs.Rows.{is_task}
use Rattle.table.specs.declared.board.Board.{Board}
use Rattle.table.specs.declared.refusal.Refusal.{Refusal}
use Rattle.table.specs.declared.row.Row.{Row}
use Rattle.tablefile.proofs.Laid.{length_laid}
use Rattle.tablefile.proofs.Numbered.{numbers_few, part_tasks, task_within}
use Rattle.tablefile.specs.Numbers.{entry, numbers, records_for}
use Rattle.tablefile.specs.Parts.{laid, part}
use Rattle.tablefile.specs.Reading.{count_at, record_at, record_of, records_at, records_of}
use Rattle.tablefile.specs.Writing.{ReadsBack}
use Rattle.telling.specs.Reading.{BlockSame, Checked, SameRow, blocks_in, total}

pub total_none : (f : ℕ → ℕ) → total f 0 ≡ 0
unfolding total
total_none f = refl

pub total_more : (f : ℕ → ℕ) (n : ℕ) → total f (n + 1) ≡ total f n + f n
unfolding total
total_more f n = ap (total f) (add-one n)

laid_total : {X : Type 0} (n : ℕ) (f : ℕ → List X) (g : ℕ → ℕ) → ((k : ℕ) → length (f k) ≡ g k) → length (laid n f) ≡ total g n
unfolding laid total
laid_total zero f g e = refl
laid_total (suc n) f g e = length-append (laid n f) (f n) ∙ omega (arith, laid_total n f g e, e n)

module _ {X : Type 0} (P : X → Type 0) where
  all_left : (xs ys : List X) → All P (xs ++ ys) → All P xs
  all_left xs ys h = All-same P xs (take (length xs) (xs ++ ys)) (sym (take_at xs ys (length xs) refl)) (All-take P (length xs) (xs ++ ys) h)

  all_right : (xs ys : List X) → All P (xs ++ ys) → All P ys
  all_right xs ys h = All-same P ys (drop (length xs) (xs ++ ys)) (sym (drop_at xs ys (length xs) refl)) (All-drop P (length xs) (xs ++ ys) h)

  -- what holds of all that is laid holds of each part
  all_part : (n : ℕ) (f : ℕ → List X) → All P (laid n f) → (k : ℕ) → k < n → All P (f k)
  unfolding laid
  all_part zero f h k l = absurd (omega arith)
  all_part (suc n) f h k l = elim (cases_lt k n) [
    | inl before ↦ all_part n f (all_left (laid n f) (f n) h) k before
    | inr last ↦ let same : n ≡ k = omega arith in subst (λ j. All P (f j)) same (all_right (laid n f) (f n) h)
  ]

-- the records of the tasks say what their rows say
entries_same : (rows : List Row) → All (SameRow rows) (records_for rows (numbers rows))
entries_same rows =
    let all = take_all 64 (numbers rows) (numbers_few rows) in
    All-map (SameRow rows) (entry rows) (numbers rows) (All-from_get_or (λ n. SameRow rows (entry rows n)) (numbers rows) 0 (λ i h.
    let there : i < length (part (numbers rows) 0 64) = omega (arith, ap length all) in
    (task_within rows (get_or (numbers rows) i 0) (subst (λ ns. is_task rows (get_or ns i 0) ≡ true) all (part_tasks rows 0 64 i there)), refl)))

module _ (board : Board) (rows : List Row) (bytes : List ℕ) (back : ReadsBack board rows bytes) (few : length bytes / 512 ≤ 7) where
  looked : blocks_in bytes ≡ length bytes / 512
  looked = omega arith

  pub records_counted : total (count_at bytes) (blocks_in bytes) ≡ length (numbers rows)
  unfolding records_of
  records_counted =
      ap (total (count_at bytes)) looked
      ∙ sym (laid_total (length bytes / 512) (records_at bytes) (count_at bytes) (λ k. length_laid 1 (count_at bytes k) (λ p. record_of (record_at bytes k p) ∷ []) (λ p _. refl) ∙ omega arith))
      ∙ ap length back.same_rows
      ∙ length-map (numbers rows) (entry rows)

  pub records_same : (k : ℕ) → k < blocks_in bytes → BlockSame rows bytes k
  unfolding records_of
  records_same k l p h =
      let within : k < length bytes / 512 = omega (arith, looked) in
      let all = All-same (SameRow rows) (records_of bytes) (records_for rows (numbers rows)) back.same_rows (entries_same rows) in
      let block = all_part (SameRow rows) (length bytes / 512) (records_at bytes) all k within in
      All-head (SameRow rows) (record_of (record_at bytes k p)) []
      (all_part (SameRow rows) (count_at bytes k) (λ p. record_of (record_at bytes k p) ∷ []) block p h)

  pub file_passes : (r : Result (Unit {0}) Refusal) → Checked board bytes r → r ≡ Ok tt
  file_passes (Ok done) c = refl
  file_passes (Err why) (inl e) = let z : ◌≡◌ {A = ℕ} 0 1 = cc (sym back.length_passes ∙ e) in absurd (omega arith)
  file_passes (Err why) (inr f) = let z : ◌≡◌ {A = ℕ} 0 1 = cc (sym (back.blocks_pass f.0 (omega (arith, f.1, looked))) ∙ f.2) in absurd (omega arith)
