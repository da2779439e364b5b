-- A text as its bytes, and what copying one into a buffer answers and leaves.
use Rattle.std.specs.Prelude.{ℕ, cond, List, ◌++◌, length, drop, Ok, Err, Result, nat_lt}
use Rattle.report.specs.declared.text.Text.{Text}
use Rattle.shortlist.specs.Items.{items}
use Rattle.table.specs.declared.refusal.Refusal.TheVariants.{BufferTooShort}
use Rattle.table.specs.declared.refusal.Refusal.{Refusal}

abbrev pub shown : Text → List ℕ
shown t = items t.bytes

-- how many bytes a text has, or the refusal of a buffer that is too short
abbrev pub copy_answer : List ℕ → ℕ → Result ℕ Refusal
copy_answer text room = cond (nat_lt room (length text)) (Err BufferTooShort) (Ok (length text))

-- the text, and then what stood there before; or all that stood there
abbrev pub copied : List ℕ → List ℕ → List ℕ
copied text out = cond (nat_lt (length out) (length text)) out (text ++ drop (length text) out)
