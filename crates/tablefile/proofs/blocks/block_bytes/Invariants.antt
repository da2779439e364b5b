use Rattle.std.proofs.Common.{◌≡◌, ℕ, ◌<◌, get_or}
use Rattle.table.specs.Rows.{row_at}
use Rattle.tablefile.proofs.Fronts.{header}
use Rattle.tablefile.proofs.Laid.{laid_into}
use Rattle.tablefile.proofs.blocks.block_bytes.Given as goal
use Rattle.tablefile.specs.Layout.{place_bytes}
use Rattle.tablefile.specs.Numbers.{Four, records_for}
use Rattle.tablefile.specs.Parts.{zeros}

-- the first p places are written, and the rest is zero
abbrev pub invariant-loop-p : goal.invariant-loop-p
invariant-loop-p l =
    let rs = records_for l.rows l.chosen in
    record {
      written : l.bytes ≡ laid_into (header l.board l.fn.number rs) (zeros 504) 48 (place_bytes rs) l.p;
      four : (j : ℕ) → j < l.p → Four (row_at l.rows (get_or l.chosen j 0)).figures;
    }
