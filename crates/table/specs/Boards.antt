-- The limits of a board, and what making one answers.
use Rattle.std.specs.Prelude.{◌≡◌, ℕ, Bool, true, false, ◌&&◌, Ok, Err, Result, nat_le}
use Rattle.table.specs.declared.board.Board.{Board}
use Rattle.table.specs.declared.refusal.Refusal.TheVariants.{BoardLimits}
use Rattle.table.specs.declared.refusal.Refusal.{Refusal}

-- 1 to 8 cores, and at most 4 shared resources
abbrev pub board_limits : ℕ → ℕ → Bool
board_limits cores resources = nat_le 1 cores && nat_le cores 8 && nat_le resources 4

-- a board of those numbers exactly if they are in limits, else the refusal
abbrev pub MadeBoard : ℕ → ℕ → Result Board Refusal → Type 0
MadeBoard m h (Ok b) = (board_limits m h ≡ true) × (b.cores ≡ m) × (b.resources ≡ h)
MadeBoard m h (Err e) = (board_limits m h ≡ false) × (e ≡ BoardLimits)
