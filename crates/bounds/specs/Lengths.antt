-- Lists of lengths by task number.
use Rattle.std.specs.Prelude.{ℕ, List, slice_index}

-- the length that a list has for j
abbrev pub length_of : List ℕ → ℕ → ℕ
length_of list j = slice_index list j
