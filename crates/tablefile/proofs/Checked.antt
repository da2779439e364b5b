-- The law of the check that reading and writing rest on: it fits two bytes. Nothing else is asked of it.
use Rattle.std.proofs.Common.{ℕ, ◌<◌, List, arith}
use Rattle.tablefile.specs.Check.{check_of}

pub check_small : (bytes : List ℕ) → check_of bytes < 65536
unfolding check_of
check_small bytes = omega arith
