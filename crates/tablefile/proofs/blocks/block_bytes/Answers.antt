use Rattle.std.proofs.Common.{◌≡◌, ◌+◌, ◌-◌, ◌*◌, ◌≤◌, [], ◌∷◌, ◌++◌, length, take, drop, get_or, sym, refl, ap, ◌∙◌, below_none, below_more, arith}
use Rattle.std.proofs.lemmas.List.{drop_at, length-map, length-take-le, take_at}
use Rattle.tablefile.proofs.Fronts.{front_laid, header}
use Rattle.tablefile.proofs.Laid.{laid_into, laid_into_more, laid_into_none}
use Rattle.tablefile.proofs.Lengths.{length_front, length_place}
use Rattle.tablefile.proofs.Placed.{place_of}
use Rattle.tablefile.proofs.blocks.block_bytes.Goals as goal
use Rattle.tablefile.specs.Check.{check_of}
use Rattle.tablefile.specs.Layout.{block_bytes, front_bytes, place_bytes}
use Rattle.tablefile.specs.Numbers.{entry, records_for}
use Rattle.tablefile.specs.Parts.{zeros}
use Rattle.tablefile.specs.Spelling.{spelled}
use borrow.Rule.Slice.PartMut.{put_mid}

pub loop-p-init : goal.loop-p-init
unfolding zeros
loop-p-init c =
    let rs = records_for c.args.rows.now c.args.chosen.now in
    let board = c.args.board.now in
    let front : c.copy_from_slice.new.self ≡ header board c.args.number rs =
    c.copy_from_slice.ensures.after
    ∙ ap (λ xs. get_or xs 0 0 ∷ get_or xs 1 0 ∷ length c.args.chosen.now ∷ board.cores ∷ board.resources ∷ 0 ∷ 0 ∷ 0 ∷ []) (c.to_be_bytes.ensures ∙ ap (spelled 2) c.from.ensures)
    ∙ ap (λ n. spelled 2 c.args.number ++ (n ∷ board.cores ∷ board.resources ∷ 0 ∷ 0 ∷ 0 ∷ [])) (sym (length-map c.args.chosen.now (entry c.args.rows.now))) in
    record {
      written = ap (λ xs. xs ++ zeros 504) front ∙ sym (laid_into_none (header board c.args.number rs) (zeros 504) 48 (place_bytes rs));
      four = below_none _;
    }

pub loop-p-preserved : goal.loop-p-preserved
loop-p-preserved c =
    let rows = c.args.rows.now in
    let chosen = c.args.chosen.now in
    let rs = records_for rows chosen in
    let p = c.loop-p.p in
    let placed : c.copy_from_slice-in-loop-p.new.self ≡ place_bytes rs p =
    c.copy_from_slice-in-loop-p.ensures.after ∙ c.record_bytes.ensures.answer ∙ sym (place_of rows chosen p c.loop-p-test.true) in
    record {
      written = ap (λ bs. put_mid (8 + 48 * p) (56 + 48 * p - (8 + 48 * p)) bs c.copy_from_slice-in-loop-p.new.self) c.loop-p.invariant.written
          ∙ laid_into_more (header c.args.board.now c.args.number rs) (zeros 504) c.copy_from_slice-in-loop-p.new.self 48 (place_bytes rs) p (8 + 48 * p) (56 + 48 * p - (8 + 48 * p)) (length_place rs) refl (omega arith) placed;
      four = below_more _ _ c.loop-p.invariant.four c.record_bytes.ensures.four;
    }

pub returns : goal.returns
unfolding block_bytes zeros
returns c =
    let board = c.args.board.now in
    let k = c.args.number in
    let rs = records_for c.args.rows.now c.args.chosen.now in
    let front = front_bytes board k rs in
    let long : length front ≡ 510 = length_front board k rs in
    let many : length rs ≡ length c.args.chosen.now = length-map c.args.chosen.now (entry c.args.rows.now) in
    let few : length rs ≤ 10 = omega (arith, c.requires.few) in
    let all : c.loop-p.p ≡ length rs = omega arith in
    let bytes : c.loop-p.bytes ≡ front ++ zeros 2 =
    c.loop-p.invariant.written ∙ ap (laid_into (header board k rs) (zeros 504) 48 (place_bytes rs)) all ∙ front_laid board k rs few in
    let sum : take 510 c.loop-p.bytes ≡ front = ap (take 510) bytes ∙ take_at front (zeros 2) 510 long in
    let check : c.copy_from_slice-2.new.self ≡ spelled 2 (check_of front) =
    c.copy_from_slice-2.ensures.after ∙ c.to_be_bytes-2.ensures ∙ ap (spelled 2) (c.reckon_check-check.ensures ∙ ap check_of sum) in
    record {
      answer = ap (λ xs. xs ++ (c.copy_from_slice-2.new.self ++ drop 2 (drop 510 c.loop-p.bytes))) sum
          ∙ ap (λ xs. front ++ (c.copy_from_slice-2.new.self ++ drop 2 xs)) (ap (drop 510) bytes ∙ drop_at front (zeros 2) 510 long)
          ∙ ap (λ xs. front ++ (xs ++ [])) check;
      four = λ j l. c.loop-p.invariant.four j (omega arith);
    }

pub slice_bounds-reckon_check-end : goal.slice_bounds-reckon_check-end
slice_bounds-reckon_check-end c = sym (length-take-le 510 c.loop-p.bytes (omega (arith, c.loop-p-test.array_long)))
