use Rattle.std.proofs.Common.{◌≡◌, ◌+◌, ◌-◌, ◌*◌, [], ◌∷◌, ◌++◌, get_or, sym, refl, ap, ◌∙◌, append-nil, arith}
use Rattle.tablefile.proofs.Laid.{laid_into, laid_into_more, laid_into_none}
use Rattle.tablefile.proofs.Spelled.{four_spelled, length_spelled}
use Rattle.tablefile.proofs.encoding.record_bytes.Goals as goal
use Rattle.tablefile.specs.Layout.{record_bytes, word_in, words}
use Rattle.tablefile.specs.Parts.{zeros}
use borrow.Rule.Slice.PartMut.{put_mid}

pub loop-i-init : goal.loop-i-init
unfolding zeros
loop-i-init c =
    let r = c.args.record.now in
    ap (λ xs. xs ++ zeros 44) c.copy_from_slice.ensures.after
    ∙ sym (laid_into_none (r.number ∷ r.row.core ∷ r.row.rank ∷ r.fourth ∷ []) (zeros 44) 4 (word_in (words r.row.figures)))

pub loop-i-preserved : goal.loop-i-preserved
loop-i-preserved c =
    let r = c.args.record.now in
    let i = c.loop-i.i in
    let written : c.copy_from_slice-in-loop-i.new.self ≡ word_in (words r.row.figures) i =
    c.copy_from_slice-in-loop-i.ensures.after ∙ c.to_be_bytes.ensures ∙ four_spelled (get_or (words r.row.figures) i 0) in
    ap (λ bs. put_mid (4 + 4 * i) (8 + 4 * i - (4 + 4 * i)) bs c.copy_from_slice-in-loop-i.new.self) c.loop-i.invariant
    ∙ laid_into_more (r.number ∷ r.row.core ∷ r.row.rank ∷ r.fourth ∷ []) (zeros 44) c.copy_from_slice-in-loop-i.new.self 4 (word_in (words r.row.figures)) i (4 + 4 * i) (8 + 4 * i - (4 + 4 * i)) (λ j. length_spelled 4 (get_or (words r.row.figures) j 0)) refl (omega arith) written

pub returns-clause-answer : goal.returns-clause-answer
unfolding record_bytes zeros
returns-clause-answer c =
    let r = c.args.record.now in
    let all : c.loop-i.i ≡ 11 = omega arith in
    c.loop-i.invariant
    ∙ ap (laid_into (r.number ∷ r.row.core ∷ r.row.rank ∷ r.fourth ∷ []) (zeros 44) 4 (word_in (words r.row.figures))) all
    ∙ append-nil (record_bytes r)
