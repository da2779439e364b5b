use Rattle.std.proofs.Common.{◌≡◌, ◌+◌, Some, None, Option, sym, refl, ap, ◌∙◌, arith}
use Rattle.sheet.proofs.Taken.{going, laid_start, laid_step, laid_stopped, record_goes, record_stops, stopped}
use Rattle.sheet.proofs.open.OpenSheet.load_records.Goals as goal
use Rattle.sheet.specs.Editing.{entered, entry_of}
use Rattle.sheet.specs.Loading.{filed, one_record, record_refusal, stop, taken}
use Rattle.sheet.specs.State.{State, state_of, unless}
use Rattle.table.specs.declared.refusal.Refusal.{Refusal}
use Rattle.table.proofs.Refused.{none_refused, some_refused}
use Rattle.tablefile.specs.Parts.{laid}
use Rattle.tablefile.specs.Reading.{count_at, record_of}
use Rattle.tablefile.specs.declared.records.Record.{Record}

-- what putting the decoded record answers and leaves, told of the record in the file
module _ (s : State) (filed decoded : Record) (same : decoded ≡ filed) (o : Option Refusal) (refusal : record_refusal s decoded ≡ o) where
  refusal_is : record_refusal s filed ≡ o
  refusal_is = ap (record_refusal s) (sym same) ∙ refusal

  leaves : (after : State) → after ≡ unless (record_refusal s decoded) (entered s (entry_of decoded)) s → after ≡ unless o (entered s (entry_of filed)) s
  leaves after e = e ∙ ap (λ z. unless z (entered s (entry_of decoded)) s) refusal ∙ ap (λ z. unless o (entered s (entry_of z)) s) same

pub loop-position-init : goal.loop-position-init
loop-position-init c = (laid_start c.args.reader.now.bytes.now (state_of c.args.self.now) c.args.before (one_record c.args.block), omega arith, refl)

pub loop-position-preserved : goal.loop-position-preserved
loop-position-preserved c =
    let bytes = c.args.reader.now.bytes.now in
    let start = state_of c.args.self.now in
    let s = state_of c.loop-position.self in
    let n = c.loop-position.entered in
    let k = c.args.block in
    let p = c.loop-position.position in
    let here = filed bytes k p in
    let same : c.decode.result ≡ filed bytes k p = c.decode.ensures.answer ∙ ap record_of c.record-block.ensures.answer.0 in
    let told : record_refusal s c.decode.result ≡ None = none_refused _ c.in-Ok.ensures.answer in
    let none : record_refusal s here ≡ None = refusal_is s here c.decode.result same None told in
    let then : state_of c.put_record.new.self ≡ entered s (entry_of here) = leaves s here c.decode.result same None told (state_of c.put_record.new.self) c.in-Ok.ensures.after.state in (
      laid_step bytes start c.args.before (one_record k) p s n (going (state_of c.put_record.new.self) (n + 1)) c.loop-position.invariant.0 (record_goes bytes s n k p none ∙ ap (λ z. going z (n + 1)) (sym then)),
      omega (arith, c.loop-position.invariant.1),
      c.put_record.ensures.after.lent ∙ c.loop-position.invariant.2,
    )

pub returns-in-Err : goal.returns-in-Err
returns-in-Err c =
    let bytes = c.args.reader.now.bytes.now in
    let start = state_of c.args.self.now in
    let s = state_of c.loop-position.self in
    let n = c.loop-position.entered in
    let k = c.args.block in
    let p = c.loop-position.position in
    let why = c.in-Err.cause in
    let here = filed bytes k p in
    let same : c.decode.result ≡ filed bytes k p = c.decode.ensures.answer ∙ ap record_of c.record-block.ensures.answer.0 in
    let refused : record_refusal s c.decode.result ≡ Some why = some_refused _ _ c.in-Err.ensures.answer in
    let some : record_refusal s here ≡ Some why = refusal_is s here c.decode.result same (Some why) refused in
    let then : state_of c.put_record.new.self ≡ s = leaves s here c.decode.result same (Some why) refused (state_of c.put_record.new.self) c.in-Err.ensures.after.state in
    let told : c.at.result ≡ stop why k p n = c.at.ensures ∙ ap (λ b. stop why b c.record-block.result.2 n) c.record-block.ensures.answer.1 ∙ ap (λ q. stop why k q n) c.record-block.ensures.answer.2 in
    record {
      loads =
          ap (λ z. stopped z c.at.result) then
          ∙ ap (stopped s) told
          ∙ sym (laid_stopped bytes start c.args.before (one_record k) (p + 1) (count_at bytes k) s (stop why k p n) (omega (arith, c.loop-position-test.true, c.count-position-end.ensures.answer)) (laid_step bytes start c.args.before (one_record k) p s n (stopped s (stop why k p n)) c.loop-position.invariant.0 (record_stops bytes s n k p why some)));
      few = tt;
      lent = c.put_record.ensures.after.lent ∙ c.loop-position.invariant.2;
    }

pub returns : goal.returns
returns c =
    let bytes = c.args.reader.now.bytes.now in
    let all : c.loop-position.position ≡ count_at bytes c.args.block = omega (arith, c.loop-position-test.false, c.loop-position.auto.position-end, c.count-position-end.ensures.answer) in
    record {
      loads = sym c.loop-position.invariant.0 ∙ ap (λ q. taken bytes (state_of c.args.self.now) c.args.before (laid q (one_record c.args.block))) all;
      few = omega (arith, c.loop-position.invariant.1, c.loop-position.auto.position-end, c.count-position-end.type_inv);
      lent = c.loop-position.invariant.2;
    }
