-- How long the parts of a file are.
use Rattle.std.proofs.Common.{◌≡◌, ℕ, ◌*◌, true, false, cond, ltb, List, length, get_or, refl, ◌∙◌, arith}
use Rattle.std.proofs.lemmas.List.{length-append}
use Rattle.table.specs.declared.board.Board.{Board}
use Rattle.table.specs.declared.row.Figures.{Figures}
use Rattle.table.specs.declared.row.Row.{Row}
use Rattle.tablefile.proofs.Laid.{length_laid}
use Rattle.tablefile.proofs.Zeros.{length_zeros}
use Rattle.tablefile.specs.Check.{check_of}
use Rattle.tablefile.specs.Layout.{block_bytes, blocks_for, file_bytes, front_bytes, in_block, no_record, place_bytes, record_bytes, word_in, words}
use Rattle.tablefile.specs.Numbers.{numbers}
use Rattle.tablefile.specs.Parts.{laid, zeros}
use Rattle.tablefile.specs.Spelling.{spelled}
use Rattle.tablefile.specs.declared.records.Record.{Record}

pub length_words : (f : Figures) → length (laid 11 (word_in (words f))) ≡ 44
length_words f = length_laid 4 11 (word_in (words f)) (λ k h. refl)

pub length_record : (r : Record) → length (record_bytes r) ≡ 48
unfolding record_bytes
length_record r = omega (arith, length_words r.row.figures)

pub length_place : (rs : List Record) (p : ℕ) → length (place_bytes rs p) ≡ 48
unfolding place_bytes
length_place rs p = elim (ltb p (length rs)) as (λ b. length (cond b (record_bytes (get_or rs p no_record)) (zeros 48)) ≡ 48) [ true ↦ length_record (get_or rs p no_record) | false ↦ length_zeros 48 ]

pub length_places : (rs : List Record) → length (laid 10 (place_bytes rs)) ≡ 480
length_places rs = length_laid 48 10 (place_bytes rs) (λ k h. length_place rs k)

pub length_front : (board : Board) (k : ℕ) (rs : List Record) → length (front_bytes board k rs) ≡ 510
unfolding front_bytes
length_front board k rs = omega (arith, length-append (laid 10 (place_bytes rs)) (zeros 22), length_places rs, length_zeros 22)

pub length_block : (board : Board) (k : ℕ) (rs : List Record) → length (block_bytes board k rs) ≡ 512
unfolding block_bytes
length_block board k rs = length-append (front_bytes board k rs) (spelled 2 (check_of (front_bytes board k rs))) ∙ omega (arith, length_front board k rs)

pub length_file : (board : Board) (rows : List Row) → length (file_bytes board rows) ≡ 512 * blocks_for (length (numbers rows))
unfolding file_bytes
length_file board rows = length_laid 512 (blocks_for (length (numbers rows))) (λ k. block_bytes board k (in_block rows k)) (λ k h. length_block board k (in_block rows k))
