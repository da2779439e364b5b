-- A saved table loads back. Its bytes pass every check, and its records are the tasks' rows by rising number; entered in
-- turn on a fresh sheet none of them is refused; and a load of such bytes takes every step.
use Rattle.std.proofs.Common.{◌≡◌, ℕ, zero, suc, ◌+◌, ◌/◌, ◌<◌, ◌≤◌, List, [], ◌∷◌, ◌++◌, length, take, None, Ok, Err, Result, sym, refl, ap, ◌∙◌, subst, arith}
use Rattle.sheet.proofs.Entering.{Passing}
use Rattle.sheet.proofs.Filed.{all_records, records_in}
use Rattle.sheet.proofs.Refilled.{Refilled, refilled}
use Rattle.sheet.proofs.Taken.{going, stopped, taken_more, taken_none}
use Rattle.sheet.specs.Editing.{entered, entry_of}
use Rattle.sheet.specs.Formed.{WellFormed}
use Rattle.sheet.specs.Loading.{Enters, Loaded, Step, block_steps, check, enter, filed, loaded, on_refusal, one_record, steps, stop, taken}
use Rattle.sheet.specs.Saving.{LoadsBack, SavesSo}
use Rattle.sheet.specs.State.{State, fresh}
use Rattle.std.proofs.lemmas.List.{length-map}
use Rattle.table.specs.Rows.{capacity, row_at}
use Rattle.table.specs.declared.board.Board.{Board}
use Rattle.table.specs.declared.refusal.Refusal.{Refusal}
use Rattle.table.specs.declared.row.Row.{Row}
use Rattle.tablefile.specs.Numbers.{entry, numbers, records_for}
use Rattle.tablefile.specs.Parts.{laid}
use Rattle.tablefile.specs.Reading.{block_at, count_at}
use Rattle.tablefile.specs.Refusing.{block_refusal}
use Rattle.tablefile.specs.Writing.{ComesBack, ReadsBack}

module _ (bytes : List ℕ) (board : Board) where
  -- every step is taken, where each block passes and each record is accepted in its turn
  all_taken : (xs : List Step) (s t : State) (n : ℕ) → s.board ≡ board → Passing bytes board xs → Enters s (records_in bytes xs) t → taken bytes s n xs ≡ going t (n + length (records_in bytes xs))
  all_taken [] s t n same pass e = taken_none bytes s n ∙ ap (λ (z : State). going z n) (sym e) ∙ ap (going t) (omega arith)
  all_taken (check b ∷ xs) s t n same pass e =
      taken_more bytes s n (check b) xs (ap (λ (z : Board). block_refusal z b (block_at bytes b)) same ∙ pass.0) ∙ all_taken xs s t n same pass.1 e
  all_taken (enter b p ∷ xs) s t n same pass e =
      taken_more bytes s n (enter b p) xs e.0 ∙ all_taken xs (entered s (entry_of (filed bytes b p))) t (n + 1) same pass e.1 ∙ ap (going t) (omega arith)

  passing_both : (xs ys : List Step) → Passing bytes board xs → Passing bytes board ys → Passing bytes board (xs ++ ys)
  passing_both [] ys p q = q
  passing_both (check b ∷ xs) ys p q = (p.0, passing_both xs ys p.1 q)
  passing_both (enter b r ∷ xs) ys p q = passing_both xs ys p q

  -- entering records checks no block
  records_pass : (n k : ℕ) → Passing bytes board (laid n (one_record k))
  unfolding laid
  records_pass zero k = tt
  records_pass (suc n) k = passing_both (laid n (one_record k)) (one_record k n) (records_pass n k) tt

  blocks_pass : (n : ℕ) → ((k : ℕ) → k < n → block_refusal board k (block_at bytes k) ≡ None) → Passing bytes board (laid n (block_steps bytes))
  unfolding laid
  blocks_pass zero pass = tt
  blocks_pass (suc n) pass = passing_both (laid n (block_steps bytes)) (block_steps bytes n) (blocks_pass n (λ k l. pass k (omega arith))) (pass n (omega arith), records_pass (count_at bytes n) n)

module _ (board : Board) (rows : List Row) (bytes : List ℕ) (back : ReadsBack board rows bytes) (h : WellFormed board rows) (lent : List Row) (room : capacity rows ≤ capacity lent) where
  abbrev end : State
  end = (refilled board rows lent h room).0

  there : Refilled board rows lent h room (refilled board rows lent h room).0
  there = (refilled board rows lent h room).1

  -- the steps would enter the tasks' rows
  in_steps : records_in bytes (steps bytes) ≡ records_for rows (numbers rows)
  in_steps = all_records bytes ∙ back.same_rows

  comes_to : loaded (fresh board lent) bytes ≡ going (refilled board rows lent h room).0 (length (numbers rows))
  comes_to =
      ap (λ o. on_refusal o (λ why. stopped (fresh board lent) (stop why 0 0 0)) (taken bytes (fresh board lent) 0 (steps bytes))) back.length_passes
      ∙ all_taken bytes board (steps bytes) (fresh board lent) end 0 refl (blocks_pass bytes board (length bytes / 512) back.blocks_pass) (subst (λ rs. Enters (fresh board lent) rs end) (sym in_steps) there.enters)
      ∙ ap (going end) (omega (arith, ap length in_steps, length-map (numbers rows) (entry rows)))

  loads_back : LoadsBack board rows bytes lent
  loads_back = record {
    accepted = ap (λ (l : Loaded). l.told) comes_to;
    same_rows = λ i l. ap (λ (z : Loaded). row_at z.sheet.rows i) comes_to ∙ there.same_rows i l;
    rest_empty = λ i past l. ap (λ (z : Loaded). row_at z.sheet.rows i) comes_to ∙ there.rest_empty i past l;
  }

pub saves_so : (board : Board) (rows : List Row) (r : Result ℕ Refusal) (out : List ℕ) → ComesBack board rows r out → SavesSo board rows r out
saves_so board rows (Ok n) out back = λ h lent room. loads_back board rows (take n out) back h lent room
saves_so board rows (Err why) out back = tt
