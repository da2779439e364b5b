use Rattle.std.proofs.Common.{◌≡◌, ℕ, ◌<◌, length, None}
use Rattle.tablefile.specs.Reading.{block_at}
use Rattle.tablefile.specs.Refusing.{block_refusal, length_refusal}
use Rattle.telling.proofs.back.check_file.Given as goal

abbrev pub invariant-loop-number : goal.invariant-loop-number
invariant-loop-number l =
    (length_refusal (length l.bytes) ≡ None) × ((k : ℕ) → k < l.number → block_refusal l.board k (block_at l.bytes k) ≡ None)
