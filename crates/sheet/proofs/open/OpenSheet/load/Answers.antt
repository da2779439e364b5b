use Rattle.std.proofs.Common.{◌≡◌, ℕ, ◌+◌, ◌/◌, ◌≤◌, List, length, None, Err, sym, refl, ap, ◌∙◌, subst, arith}
use Rattle.sheet.proofs.Entering.{load_loads}
use Rattle.sheet.proofs.Taken.{going, laid_start, laid_step, laid_stopped, stopped}
use Rattle.sheet.proofs.open.OpenSheet.load.Goals as goal
use Rattle.sheet.specs.Loading.{Loaded, Loads, block_steps, loaded, on_refusal, steps, stop, taken}
use Rattle.sheet.specs.State.{State, state_of}
use Rattle.std.proofs.lemmas.Result.{err_from_is_err_and}
use Rattle.table.proofs.Refused.{none_refused}
use Rattle.tablefile.specs.Parts.{laid}
use Rattle.tablefile.specs.Refusing.{length_refusal}

-- a length that passes leads on to the blocks
past_length : (s : State) (bytes : List ℕ) → length_refusal (length bytes) ≡ None → loaded s bytes ≡ taken bytes s 0 (steps bytes)
past_length s bytes e = ap (λ o. on_refusal o (λ why. stopped s (stop why 0 0 0)) (taken bytes s 0 (steps bytes))) e

pub loop-block-init : goal.loop-block-init
loop-block-init c = (laid_start c.args.bytes.now (state_of c.args.self.now) 0 (block_steps c.args.bytes.now), omega arith, refl)

pub loop-block-preserved : goal.loop-block-preserved
loop-block-preserved c =
    let bytes = c.args.bytes.now in
    let start = state_of c.args.self.now in
    let s = state_of c.loop-block.self in
    let n = c.loop-block.entered in
    let k = c.loop-block.block in
    let here : taken bytes s n (block_steps bytes k) ≡ going (state_of c.load_block.new.self) c.in_ok-entered.entered =
    ap (λ b. taken b s n (block_steps b k)) (sym c.new-reader.ensures.answer) ∙ sym c.in_ok-entered.ensures.loads in (
      laid_step bytes start 0 (block_steps bytes) k s n (going (state_of c.load_block.new.self) c.in_ok-entered.entered) c.loop-block.invariant.0 here,
      omega (arith, c.in_ok-entered.ensures.few, c.loop-block.invariant.1),
      c.load_block.ensures.lent ∙ c.loop-block.invariant.2,
    )

pub returns-in_err-entered : goal.returns-in_err-entered
returns-in_err-entered c =
    let bytes = c.args.bytes.now in
    let start = state_of c.args.self.now in
    let s = state_of c.loop-block.self in
    let n = c.loop-block.entered in
    let k = c.loop-block.block in
    let after = state_of c.load_block.new.self in
    let why = c.in_err-entered.field-0.0 in
    let p = err_from_is_err_and c.from_residual.result c.from_residual.ensures.1 in
    let told : c.from_residual.result ≡ Err c.in_err-entered.field-0.0 = p.1 ∙ ap Err p.2 in
    let here : taken bytes s n (block_steps bytes k) ≡ stopped (state_of c.load_block.new.self) c.in_err-entered.field-0.0 =
    ap (λ b. taken b s n (block_steps b k)) (sym c.new-reader.ensures.answer) ∙ sym c.in_err-entered.ensures.loads in
    let blocks : k + 1 ≤ length bytes / 512 =
    subst (λ b. k + 1 ≤ length b / 512) c.new-reader.ensures.answer (omega (arith, c.loop-block-test.true, c.blocks-block-end.ensures.answer)) in
    let end : stopped after why ≡ loaded start bytes =
    sym (laid_stopped bytes start 0 (block_steps bytes) (k + 1) (length bytes / 512) after why blocks (laid_step bytes start 0 (block_steps bytes) k s n (stopped after why) c.loop-block.invariant.0 here))
    ∙ sym (past_length start bytes (none_refused _ c.in_default.ensures.answer)) in
    record {
      answer = told ∙ ap (λ (l : Loaded). l.told) end;
      after = record { state = ap (λ (l : Loaded). l.sheet) end; lent = c.load_block.ensures.lent ∙ c.loop-block.invariant.2 };
      loads = subst (λ r. Loads start bytes r after) (sym told) (load_loads bytes start (stopped after why) end);
    }

pub returns : goal.returns
returns c =
    let bytes = c.args.bytes.now in
    let start = state_of c.args.self.now in
    let end : going (state_of c.loop-block.self) c.loop-block.entered ≡ loaded start bytes =
    sym c.loop-block.invariant.0
    ∙ ap (λ q. taken bytes start 0 (laid q (block_steps bytes))) (let z : c.loop-block.block ≡ length c.new-reader.result.bytes.now / 512 = omega (arith, c.loop-block-test.false, c.loop-block.auto.block-end, c.blocks-block-end.ensures.answer) in z ∙ ap (λ b. length b / 512) c.new-reader.ensures.answer)
    ∙ sym (past_length start bytes (none_refused _ c.in_default.ensures.answer)) in
    record {
      answer = ap (λ (l : Loaded). l.told) end;
      after = record { state = ap (λ (l : Loaded). l.sheet) end; lent = c.loop-block.invariant.2 };
      loads = load_loads bytes start (going (state_of c.loop-block.self) c.loop-block.entered) end;
    }
