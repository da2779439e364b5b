-- What is told of a file that was written: the room suffices, so it was, and it reads back.
use Rattle.std.proofs.Common.{◌≡◌, ℕ, ◌-◌, ◌/◌, ◌^◌, ◌<◌, ◌≤◌, min, List, ◌++◌, codes, drop, length, take, Ok, Err, Result, sym, refl, ap, ◌∙◌, subst, arith}
use Rattle.std.proofs.lemmas.List.{take_at}
use Rattle.std.specs.Fmt.{decimal}
use Rattle.table.specs.declared.board.Board.{Board}
use Rattle.table.specs.declared.refusal.Refusal.{Refusal}
use Rattle.table.specs.declared.row.Row.{Row}
use Rattle.tablefile.proofs.Lengths.{length_file}
use Rattle.tablefile.proofs.Numbered.{numbers_few}
use Rattle.tablefile.proofs.Written.{long_answer, long_buffer}
use Rattle.tablefile.specs.Layout.{file_bytes}
use Rattle.tablefile.specs.Numbers.{numbers}
use Rattle.tablefile.specs.Reading.{count_at}
use Rattle.tablefile.specs.Writing.{ReadsBack, buffer_after, write_answer}
use Rattle.telling.proofs.Backed.{file_passes, records_counted, records_same}
use Rattle.telling.specs.Files.{checks_text, file_text, tally_text}
use Rattle.telling.specs.Hex.{bytes_text}
use Rattle.telling.specs.Reading.{BlockSame, Checked, blocks_in, total}

-- what the writes make
abbrev pub told_text : ℕ → List ℕ → Result (Unit {0}) Refusal → ℕ → ℕ → List ℕ
told_text size front checks read same =
    codes "The table as a file has " ++ (decimal size ++ (codes " bytes and begins\n" ++ (bytes_text front ++ (checks_text checks ++ (codes "\n" ++ tally_text read same)))))

module _ (board : Board) (rows : List Row) where
  abbrev file : List ℕ
  file = file_bytes board rows

  abbrev count : ℕ
  count = length (numbers rows)

  file_fits : length file ≤ 3584
  file_fits = omega (arith, length_file board rows, numbers_few rows)

  file_blocks : length file / 512 ≤ 7
  file_blocks = omega (arith, file_fits)

  written : Ok (length file) ≡ write_answer board rows 3584
  written = long_answer board rows 3584 (length file) file_fits refl

  pub never_refused : (why : Refusal) → Err why ≡ write_answer board rows 3584 → ⊥
  never_refused why e = let z : ◌≡◌ {A = ℕ} 0 1 = cc (e ∙ sym written) in omega arith

  size_is : (size : ℕ) → Ok size ≡ write_answer board rows 3584 → size ≡ length file
  size_is size e = let same : ◌≡◌ {A = Result ℕ Refusal} (Ok size) (Ok (length file)) = e ∙ sym written in cc

  bytes_are : (out now : List ℕ) (at : ℕ) → length out ≡ 3584 → now ≡ buffer_after board rows out → at ≡ length file → take at now ≡ file
  bytes_are out now at room left e =
      ap (take at) (left ∙ long_buffer board rows out (omega (arith, file_fits, room))) ∙ take_at file (drop (length file) out) at (sym e)

  front_is : (m : ℕ) → m ≡ min (length file) 56 → take m file ≡ take 56 file
  front_is m e = let most : m ≡ 56 = omega (arith, e, length_file board rows) in ap (λ k. take k file) most

  counted : (n : ℕ) → ReadsBack board rows file → n ≡ min (total (count_at file) (blocks_in file)) (2 ^ 64 - 1) → n ≡ count
  counted n back e = omega (arith, e, records_counted board rows file back file_blocks, numbers_few rows)

  text_is : (size read same : ℕ) (front : List ℕ) (checks : Result (Unit {0}) Refusal) → size ≡ length file → front ≡ take 56 file → checks ≡ Ok tt → read ≡ count → same ≡ count → told_text size front checks read same ≡ file_text board rows
  unfolding file_text
  text_is size read same front checks a b c d e =
      ap (λ n. told_text n front checks read same) a
      ∙ ap (λ xs. told_text (length file) xs checks read same) b
      ∙ ap (λ r. told_text (length file) (take 56 file) r read same) c
      ∙ ap (λ n. told_text (length file) (take 56 file) (Ok tt) n same) d
      ∙ ap (λ n. told_text (length file) (take 56 file) (Ok tt) count n) e

  -- the same of what the code has: the buffer, what it took from it, and what it found
  module _ (out now : List ℕ) (size at m read same : ℕ) (checks : Result (Unit {0}) Refusal) where
    abbrev bytes : List ℕ
    bytes = take at now

    abbrev all : ℕ
    all = min (total (count_at bytes) (blocks_in bytes)) (2 ^ 64 - 1)

    pub file_told : length out ≡ 3584 → Ok size ≡ write_answer board rows 3584 → now ≡ buffer_after board rows out → ReadsBack board rows (take size now) → at ≡ min size 3584 → m ≡ min (length bytes) 56 → Checked board bytes checks → read ≡ all → (((k : ℕ) → k < blocks_in bytes → BlockSame rows bytes k) → same ≡ all) → told_text size (take m bytes) checks read same ≡ file_text board rows
    file_told room answer left back clipped short checked counts sames =
        let long = size_is size answer in
        let is = bytes_are out now at room left (omega (arith, clipped, long, file_fits)) in
        let good : ReadsBack board rows file = subst (ReadsBack board rows) (bytes_are out now size room left long) back in
        let found = ap (λ xs. min (total (count_at xs) (blocks_in xs)) (2 ^ 64 - 1)) is in
        let each = subst (λ xs. (k : ℕ) → k < blocks_in xs → BlockSame rows xs k) (sym is) (records_same board rows file good file_blocks) in
        text_is size read same (take m bytes) checks long
        (ap (take m) is ∙ front_is m (short ∙ ap (λ xs. min (length xs) 56) is))
        (file_passes board rows file good file_blocks checks (subst (λ xs. Checked board xs checks) is checked))
        (counted read good (counts ∙ found))
        (counted same good (sames each ∙ found))
