use Rattle.std.proofs.Common.{◌≡◌, []}
use Rattle.tablefile.proofs.Laid.{laid_into}
use Rattle.tablefile.proofs.Returned.{BlocksFour}
use Rattle.tablefile.proofs.writing.write_file.Given as goal
use Rattle.tablefile.specs.Layout.{block_bytes, in_block}

abbrev pub invariant-loop-k : goal.invariant-loop-k
invariant-loop-k l = record {
  written : l.out ≡ laid_into [] l.initial.out 512 (λ k. block_bytes l.board k (in_block l.rows k)) l.k;
  four : BlocksFour l.rows l.k;
}
