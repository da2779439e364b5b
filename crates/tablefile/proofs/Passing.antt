-- Every block that is written passes the checks, and its records stand where they are read.
use Rattle.std.proofs.Common.{◌≡◌, ℕ, ◌+◌, ◌-◌, ◌*◌, ◌<◌, ◌≤◌, true, List, ◌++◌, length, get_or, take, drop, None, sym, refl, ap, ◌∙◌, arith}
use Rattle.std.proofs.lemmas.List.{append_assoc, drop_at, drop-drop, take_at}
use Rattle.std.proofs.lemmas.Bool.{eq-eqb, le-leb}
use Rattle.table.specs.declared.board.Board.{Board}
use Rattle.tablefile.proofs.Checked.{check_small}
use Rattle.tablefile.proofs.Fronts.{filled, front_is}
use Rattle.tablefile.proofs.Laid.{length_laid, part_laid}
use Rattle.tablefile.proofs.Lengths.{length_block, length_front, length_place}
use Rattle.tablefile.proofs.Spelled.{spells_spelled}
use Rattle.tablefile.proofs.Zeros.{all_zeros, length_zeros}
use Rattle.tablefile.specs.Check.{check_of}
use Rattle.tablefile.specs.Layout.{block_bytes, front_bytes, place_bytes}
use Rattle.tablefile.specs.Parts.{all_zero, laid, part, zeros}
use Rattle.tablefile.specs.Refusing.{bears_number, block_refusal, check_stands, header_fits, rest_zero}
use Rattle.tablefile.specs.Spelling.{spelled, spells}
use Rattle.tablefile.specs.declared.records.Record.{Record}

-- the bytes of a block from its first place on
after_header : (board : Board) (k : ℕ) (rs : List Record) → drop 8 (block_bytes board k rs) ≡ laid 10 (place_bytes rs) ++ (zeros 22 ++ spelled 2 (check_of (front_bytes board k rs)))
unfolding block_bytes front_bytes
after_header board k rs = append_assoc (laid 10 (place_bytes rs)) (zeros 22) (spelled 2 (check_of (front_bytes board k rs)))

pub place_found : (board : Board) (k p : ℕ) (rs : List Record) → p < 10 → part (block_bytes board k rs) (8 + 48 * p) 48 ≡ place_bytes rs p
place_found board k p rs h =
    ap (take 48) (sym (drop-drop (48 * p) 8 (block_bytes board k rs)))
    ∙ ap (λ xs. take 48 (drop (48 * p) xs)) (after_header board k rs)
    ∙ part_laid 48 10 p (place_bytes rs) (zeros 22 ++ spelled 2 (check_of (front_bytes board k rs))) (λ j l. length_place rs j) h

pub count_found : (board : Board) (k : ℕ) (rs : List Record) → get_or (block_bytes board k rs) 2 0 ≡ length rs
unfolding block_bytes front_bytes
count_found board k rs = refl

check_passes : (board : Board) (k : ℕ) (rs : List Record) → check_stands (block_bytes board k rs) ≡ true
unfolding block_bytes
check_passes board k rs =
    let front = front_bytes board k rs in
    let check = spelled 2 (check_of front) in
    let long : length front ≡ 510 = length_front board k rs in
    eq-eqb (spells (drop 510 (front ++ check))) (check_of (take 510 (front ++ check)))
    (ap spells (drop_at front check 510 long) ∙ spells_spelled 2 (check_of front) (check_small front) ∙ sym (ap check_of (take_at front check 510 long)))

number_passes : (board : Board) (k : ℕ) (rs : List Record) → k < 65536 → bears_number k (block_bytes board k rs) ≡ true
unfolding block_bytes front_bytes
number_passes board k rs h = eq-eqb (spells (spelled 2 k)) k (spells_spelled 2 k h)

header_passes : (board : Board) (k : ℕ) (rs : List Record) → length rs ≤ 10 → header_fits board (block_bytes board k rs) ≡ true
unfolding block_bytes front_bytes
header_passes board k rs h = rw (le-leb (length rs) 10 h, eq-eqb board.cores board.cores refl, eq-eqb board.resources board.resources refl)

zeros_pass : (board : Board) (k : ℕ) (rs : List Record) → length rs ≤ 10 → rest_zero (block_bytes board k rs) ≡ true
unfolding block_bytes
zeros_pass board k rs few =
    let check = spelled 2 (check_of (front_bytes board k rs)) in
    let c = length rs in
    let from = 8 + 48 * c in
    let done = filled board k rs few in
    let rest = zeros (502 - 48 * c) in
    let long : length done ≡ from = omega (arith, length_laid 48 c (place_bytes rs) (λ j l. length_place rs j)) in
    let found : part (block_bytes board k rs) from (510 - from) ≡ rest =
    ap (λ xs. part xs from (510 - from)) (ap (λ xs. xs ++ check) (front_is board k rs few) ∙ append_assoc done rest check)
    ∙ ap (take (510 - from)) (drop_at done (rest ++ check) from long)
    ∙ take_at rest check (510 - from) (length_zeros (502 - 48 * c) ∙ omega arith) in
    ap (λ n. all_zero (part (block_bytes board k rs) (8 + 48 * n) (510 - (8 + 48 * n)))) (count_found board k rs) ∙ ap all_zero found ∙ all_zeros (502 - 48 * c)

-- every block that is written passes
pub block_passes : (board : Board) (k : ℕ) (rs : List Record) → k < 65536 → length rs ≤ 10 → block_refusal board k (block_bytes board k rs) ≡ None
unfolding block_refusal
block_passes board k rs small few =
    rw (eq-eqb (length (block_bytes board k rs)) 512 (length_block board k rs), check_passes board k rs, number_passes board k rs small, header_passes board k rs few, zeros_pass board k rs few)
