-- Parts of a byte list: taken out, and laid one after another.
use Rattle.std.specs.Prelude.{ℕ, zero, suc, Bool, List, [], ◌++◌, take, drop, replicate, ◌==◌}
use Rattle.std.specs.List.{list_all}

-- n places from a place on, or those that there are
abbrev pub part : List ℕ → ℕ → ℕ → List ℕ
part bytes at n = take n (drop at bytes)

-- the parts f 0, f 1 and so on, n of them, one after another
unfoldable pub laid : {X : Type 0} → ℕ → (ℕ → List X) → List X
laid zero f = []
laid (suc n) f = laid n f ++ f n

-- n zeros
unfoldable pub zeros : ℕ → List ℕ
zeros n = replicate n 0

-- every byte is zero
abbrev pub all_zero : List ℕ → Bool
all_zero bytes = list_all (λ b. b == 0) bytes
