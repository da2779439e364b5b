-- Bytes as hexadecimal digits, sixteen bytes to a line.
use Rattle.std.specs.Fmt.{digit_glyph}
use Rattle.std.specs.List.{flat_map}
use Rattle.std.specs.Prelude.{ℕ, zero, suc, ◌+◌, ◌/◌, ◌%◌, false, List, [], ◌∷◌, ◌++◌, codes, drop, length, take}

-- a byte: a space and two digits
unfoldable pub byte_text : ℕ → List ℕ
byte_text b = 32 ∷ digit_glyph false (b / 16) ∷ digit_glyph false (b % 16) ∷ []

-- a line, after a space more
unfoldable pub line_text : List ℕ → List ℕ
line_text bytes = codes " " ++ flat_map byte_text bytes

-- so many lines of sixteen bytes
unfoldable pub lines_text : ℕ → List ℕ → List ℕ
lines_text zero bytes = []
lines_text (suc n) bytes = (line_text (take 16 bytes) ++ codes "\n") ++ lines_text n (drop 16 bytes)

-- bytes in lines, as many as they need
unfoldable pub bytes_text : List ℕ → List ℕ
bytes_text bytes = lines_text ((length bytes + 15) / 16) bytes
