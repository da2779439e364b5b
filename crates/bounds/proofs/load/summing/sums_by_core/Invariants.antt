use Rattle.std.proofs.Common.{◌≡◌, ℕ, ◌<◌, length, take}
use Rattle.bounds.proofs.Totals.{ByCore}
use Rattle.bounds.proofs.load.summing.sums_by_core.Given as goal

-- each of the loads before the index is added to the sums of its core
abbrev pub invariant-loop-load : goal.invariant-loop-load
invariant-loop-load l = (length l.sums ≡ 8) × ((y : ℕ) → y < 8 → ByCore l.window l.load-index (take l.load-index l.load-items) l.sums y)
