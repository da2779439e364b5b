-- What writing a file answers and leaves, by whether the buffer is long enough; and the numbers chosen for a block.
use Rattle.std.proofs.Common.{◌≡◌, ℕ, ◌*◌, ◌<◌, ◌≤◌, cond, List, ◌++◌, length, get_or, drop, Ok, Err, sym, ap, ◌∙◌, subst}
use Rattle.std.proofs.lemmas.Bool.{le-ltb, lt-ltb}
use Rattle.table.specs.declared.board.Board.{Board}
use Rattle.table.specs.declared.refusal.Refusal.TheVariants.{BufferTooShort}
use Rattle.table.specs.declared.row.Row.{Row}
use Rattle.tablefile.proofs.Numbered.{part_tasks, task_within}
use Rattle.tablefile.specs.Layout.{file_bytes}
use Rattle.tablefile.specs.Numbers.{AllWithin, numbers}
use Rattle.tablefile.specs.Parts.{part}
use Rattle.tablefile.specs.Writing.{buffer_after, write_answer}

module _ (board : Board) (rows : List Row) where
  abbrev file : List ℕ
  file = file_bytes board rows

  -- a buffer that is too short
  pub short_answer : (n : ℕ) → n < length file → Err BufferTooShort ≡ write_answer board rows n
  short_answer n h = sym (ap (λ b. cond b (Err BufferTooShort) (Ok (length file))) (lt-ltb n (length file) h))

  pub short_buffer : (out : List ℕ) → length out < length file → out ≡ buffer_after board rows out
  short_buffer out h = sym (ap (λ b. cond b out (file ++ drop (length file) out)) (lt-ltb (length out) (length file) h))

  -- one that is long enough
  pub long_answer : (n k : ℕ) → length file ≤ n → k ≡ length file → Ok k ≡ write_answer board rows n
  long_answer n k h e = ap (λ m. Ok m) e ∙ sym (ap (λ b. cond b (Err BufferTooShort) (Ok (length file))) (le-ltb n (length file) h))

  pub long_buffer : (out : List ℕ) → length file ≤ length out → buffer_after board rows out ≡ file ++ drop (length file) out
  long_buffer out h = ap (λ b. cond b out (file ++ drop (length file) out)) (le-ltb (length out) (length file) h)

-- the numbers chosen for a block are those of rows
pub chosen_within : (rows : List Row) (chosen : List ℕ) (k : ℕ) → chosen ≡ part (numbers rows) (10 * k) 10 → AllWithin chosen rows
chosen_within rows chosen k e =
    subst (λ ns. AllWithin ns rows) (sym e) (λ p h. task_within rows (get_or (part (numbers rows) (10 * k) 10) p 0) (part_tasks rows (10 * k) 10 p h))
