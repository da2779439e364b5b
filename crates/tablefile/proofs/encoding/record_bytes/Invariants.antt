use Rattle.std.proofs.Common.{◌≡◌, [], ◌∷◌}
use Rattle.tablefile.proofs.Laid.{laid_into}
use Rattle.tablefile.proofs.encoding.record_bytes.Given as goal
use Rattle.tablefile.specs.Layout.{word_in, words}
use Rattle.tablefile.specs.Parts.{zeros}

abbrev pub invariant-loop-i : goal.invariant-loop-i
invariant-loop-i l =
    let r = l.record in
    l.bytes ≡ laid_into (r.number ∷ r.row.core ∷ r.row.rank ∷ r.fourth ∷ []) (zeros 44) 4 (word_in (words r.row.figures)) l.i
