-- The check of a block: the one definition that says how it is reckoned.
use Rattle.std.specs.Prelude.{ℕ, ◌%◌, List, sum}

-- the check of a block's bytes up to the check itself
unfoldable pub check_of : List ℕ → ℕ
check_of bytes = sum bytes % 65536
