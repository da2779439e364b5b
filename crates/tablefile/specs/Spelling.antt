-- Numbers as bytes, the most significant first.
use Rattle.std.specs.Prelude.{ℕ, zero, suc, ◌/◌, ◌%◌, List, [], ◌∷◌, ◌++◌}
use Rattle.std.specs.Int.Digits.{number_from_digits}

-- a number as so many bytes
abbrev pub spelled : ℕ → ℕ → List ℕ
spelled zero n = []
spelled (suc width) n = spelled width (n / 256) ++ (n % 256 ∷ [])

-- the number that bytes spell
abbrev pub spells : List ℕ → ℕ
spells bytes = number_from_digits 256 bytes
