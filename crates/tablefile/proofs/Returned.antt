-- A file that was written reads back as the same rows.
use Rattle.std.proofs.Common.{◌≡◌, ℕ, ◌+◌, ◌-◌, ◌*◌, ◌/◌, ◌%◌, ◌<◌, ◌≤◌, true, List, [], ◌∷◌, length, get_or, take, drop, None, sym, ap, ◌∙◌, subst, arith}
use Rattle.std.proofs.lemmas.List.{append-nil, drop-drop, drop-map, drop-take, get_or-drop, get_or-map, get_or-take, length-map, length-take, take_all, take_at, take-map, take-take}
use Rattle.std.proofs.lemmas.Bool.{eq-eqb, le-leb}
use Rattle.table.proofs.Places.{task_holds}
use Rattle.table.specs.Rows.{is_task}
use Rattle.table.specs.declared.board.Board.{Board}
use Rattle.table.specs.declared.row.Row.{Row}
use Rattle.tablefile.proofs.Laid.{laid_cut, laid_ones, laid_same, part_laid}
use Rattle.tablefile.proofs.Lengths.{length_block, length_file}
use Rattle.tablefile.proofs.Numbered.{numbers_few, part_tasks}
use Rattle.tablefile.proofs.Passing.{block_passes, count_found, place_found}
use Rattle.tablefile.proofs.Placed.{place_of}
use Rattle.tablefile.proofs.Restored.{record_back}
use Rattle.tablefile.proofs.Written.{long_buffer}
use Rattle.tablefile.specs.Layout.{block_bytes, blocks_for, file_bytes, in_block, no_record, record_bytes}
use Rattle.tablefile.specs.Numbers.{AllFour, entry, numbers, records_for}
use Rattle.tablefile.specs.Parts.{laid, part}
use Rattle.tablefile.specs.Reading.{block_at, count_at, record_at, record_of, records_at, records_of}
use Rattle.tablefile.specs.Refusing.{block_refusal, length_refusal}
use Rattle.tablefile.specs.Writing.{ReadsBack, buffer_after}
use native.Mathlib.Nat.{mul-div_cancel_left}

-- a part of a part
part_part : (xs : List ℕ) (a b m n : ℕ) → b + n ≤ m → part (part xs a m) b n ≡ part xs (a + b) n
part_part xs a b m n h =
    let rest = drop a xs in
    let all : b + (m - b) ≡ m = omega arith in
    ap (λ k. take n (drop b (take k rest))) (sym all) ∙ ap (take n) (drop-take b (m - b) rest) ∙ take-take n (m - b) (drop b rest) (omega arith) ∙ ap (take n) (drop-drop b a xs)

block_few : (rows : List Row) (k : ℕ) → length (in_block rows k) ≤ 10
block_few rows k = omega (arith, length-map (part (numbers rows) (10 * k) 10) (entry rows), length-take 10 (drop (10 * k) (numbers rows)))

blocks_few : (n : ℕ) → n ≤ 64 → blocks_for n ≤ 7
blocks_few n h = omega arith

blocks_some : (n : ℕ) → 1 ≤ blocks_for n
blocks_some n = omega arith

blocks_hold : (n : ℕ) → n ≤ 10 * blocks_for n
blocks_hold n = omega arith

-- the rows of the first blocks have four figures of X and of Y
abbrev pub BlocksFour : List Row → ℕ → Type 0
BlocksFour rows n = (k : ℕ) → k < n → AllFour (part (numbers rows) (10 * k) 10) rows

module _ (board : Board) (rows : List Row) where
  abbrev file : List ℕ
  file = file_bytes board rows

  abbrev count : ℕ
  count = blocks_for (length (numbers rows))

  file_blocks : length file / 512 ≡ count
  file_blocks = ap (λ n. n / 512) (length_file board rows) ∙ mul-div_cancel_left count {n = 512} (omega arith)

  -- what stands in the file: block k, its count, and each record
  block_found : (k : ℕ) → k < count → block_at file k ≡ block_bytes board k (in_block rows k)
  unfolding file_bytes
  block_found k h =
      let f : ℕ → List ℕ = λ k. block_bytes board k (in_block rows k) in
      ap (λ xs. take 512 (drop (512 * k) xs)) (sym (append-nil (laid count f)))
      ∙ part_laid 512 count k f [] (λ j l. length_block board j (in_block rows j)) h

  count_back : (k : ℕ) → k < count → count_at file k ≡ length (in_block rows k)
  count_back k h =
      sym (get_or-take 512 (drop (512 * k) file) 2 0 (omega arith) ∙ get_or-drop (512 * k) file 2 0)
      ∙ ap (λ b. get_or b 2 0) (block_found k h) ∙ count_found board k (in_block rows k)

  entry_back : (k p : ℕ) → AllFour (part (numbers rows) (10 * k) 10) rows → k < count → p < length (part (numbers rows) (10 * k) 10) → record_of (record_at file k p) ≡ entry rows (get_or (part (numbers rows) (10 * k) 10) p 0)
  entry_back k p four h l =
      let ns = part (numbers rows) (10 * k) 10 in
      let ten : p < 10 = omega (arith, l, length-take 10 (drop (10 * k) (numbers rows))) in
      let at : 512 * k + 8 + 48 * p ≡ 512 * k + (8 + 48 * p) = omega arith in
      let task : is_task rows (get_or ns p 0) ≡ true = part_tasks rows (10 * k) 10 p l in
      let found : record_at file k p ≡ record_bytes (entry rows (get_or ns p 0)) =
      ap (λ a. part file a 48) at
      ∙ sym (part_part file (512 * k) (8 + 48 * p) 512 48 (omega arith))
      ∙ ap (λ b. part b (8 + 48 * p) 48) (block_found k h)
      ∙ place_found board k p (in_block rows k) ten
      ∙ place_of rows ns p l in
      ap record_of found ∙ record_back (entry rows (get_or ns p 0)) (task_holds rows (get_or ns p 0) task) (four p l)

  -- so the records of a block, and of the whole file, are those of the tasks
  block_records : (k : ℕ) → AllFour (part (numbers rows) (10 * k) 10) rows → k < count → records_at file k ≡ in_block rows k
  block_records k four h =
      let ns = part (numbers rows) (10 * k) 10 in
      let rs = in_block rows k in
      let many : length rs ≡ length ns = length-map ns (entry rows) in
      ap (λ n. laid n (λ p. record_of (record_at file k p) ∷ [])) (count_back k h)
      ∙ laid_same (length rs) (λ p. record_of (record_at file k p) ∷ []) (λ p. get_or rs p no_record ∷ [])
      (λ p l. let in_ns : p < length ns = omega arith in ap (λ r. r ∷ []) (entry_back k p four h in_ns ∙ sym (get_or-map (entry rows) ns p 0 no_record in_ns)))
      ∙ laid_ones (length rs) rs no_record (omega arith)
      ∙ take_all (length rs) rs (omega arith)

  file_records : BlocksFour rows count → records_of file ≡ records_for rows (numbers rows)
  unfolding records_of
  file_records four =
      let es = records_for rows (numbers rows) in
      let few : length es ≤ 10 * count = omega (arith, length-map (numbers rows) (entry rows), blocks_hold (length (numbers rows))) in
      ap (λ n. laid n (records_at file)) file_blocks
      ∙ laid_same count (records_at file) (λ k. take 10 (drop (10 * k) es))
      (λ k h. block_records k (four k h) h ∙ sym (take-map (entry rows) 10 (drop (10 * k) (numbers rows))) ∙ sym (ap (take 10) (drop-map (entry rows) (10 * k) (numbers rows))))
      ∙ laid_cut 10 count es
      ∙ take_all (10 * count) es few

  -- and every check passes
  file_sound : (k : ℕ) → k < length file / 512 → block_refusal board k (block_at file k) ≡ None
  file_sound k h =
      let few : count ≤ 7 = blocks_few (length (numbers rows)) (numbers_few rows) in
      let less : k < count = omega (arith, file_blocks) in
      ap (block_refusal board k) (block_found k less) ∙ block_passes board k (in_block rows k) (omega arith) (block_few rows k)

  file_long : length_refusal (length file) ≡ None
  file_long =
      let few : count ≤ 7 = blocks_few (length (numbers rows)) (numbers_few rows) in
      let some : 1 ≤ count = blocks_some (length (numbers rows)) in
      let long : length file ≡ 512 * count = length_file board rows in
      rw (le-leb 1 (length file) (omega arith), le-leb (length file) 32768 (omega arith), eq-eqb (length file % 512) 0 (omega arith))

  reads_back : BlocksFour rows count → ReadsBack board rows file
  reads_back four = record { length_passes = file_long; blocks_pass = file_sound; same_rows = file_records four }

  -- the bytes told, from the front of the buffer
  pub written_back : (out now : List ℕ) (n : ℕ) → BlocksFour rows count → length file ≤ length out → n ≡ length file → now ≡ buffer_after board rows out → ReadsBack board rows (take n now)
  written_back out now n four room e written =
      let front : take n now ≡ file = ap (take n) (written ∙ long_buffer board rows out room) ∙ take_at file (drop (length file) out) n (sym e) in
      subst (λ xs. ReadsBack board rows xs) (sym front) (reads_back four)
