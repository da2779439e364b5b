-- Random numbers: a counter that each draw moves on, and the mixing of its bits.
use Rattle.std.specs.Prelude.{ℕ, ◌+◌, ◌*◌, ◌/◌, ◌%◌, ◌^◌, ◌==◌, cond, bit_xor}

-- the counter after a draw
abbrev pub moved : ℕ → ℕ
moved n = (n + 0x9e3779b97f4a7c15) % 2 ^ 64

-- its high bits brought down, and the whole spread by a factor
abbrev pub spread : ℕ → ℕ → ℕ → ℕ
spread n bits factor = bit_xor n (n / 2 ^ bits) * factor % 2 ^ 64

-- the bits of a counter, mixed
abbrev pub mixed : ℕ → ℕ
mixed n = let b = spread (spread n 30 0xbf58476d1ce4e5b9) 27 0x94d049bb133111eb in bit_xor b (b / 2 ^ 31)

-- what a draw below a bound gives: 0 where the bound is 0
unfoldable pub drawn : ℕ → ℕ → ℕ
drawn n bound = cond (bound == 0) 0 (mixed (moved n) % bound)
