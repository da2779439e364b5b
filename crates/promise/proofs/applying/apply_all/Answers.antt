use Rattle.std.proofs.Common.{◌≡◌, ◌+◌, ◌<◌, [], ◌++◌, length, get_or, take, drop, set, Some, sym, ap, ◌∙◌, arith}
use Rattle.promise.proofs.Runs.{answers_all, answers_more, rest_more, sheet_more}
use Rattle.promise.proofs.applying.apply_all.Goals as goal
use Rattle.promise.specs.Calls.{after_all, answer_to, answers_to}
use Rattle.promise.specs.declared.call.Call.TheVariants.{Enter}
use Rattle.promise.specs.declared.call.Call.{Call}
use Rattle.sheet.specs.State.{state_of}
use Rattle.std.proofs.lemmas.List.{at_drop_all}

-- what the code reads past the end of a list of calls
abbrev past : Call
past = Enter (record { number = 0; core = 0; rank = 0; figures = record { cost = 0; period = 0; deadline = 0; sensitivity = []; stress = [] } })

pub loop-i-preserved : goal.loop-i-preserved
loop-i-preserved g c =
    let m = g.T.Test.meaning c.args.test.now in
    let w = g.T.Test.wide in
    let s = state_of c.loop-i.sheet in
    let cs = c.args.calls.now in
    let i = c.loop-i.i in
    let told = c.loop-i.answers in
    let room : i < length told = omega (arith, c.requires) in (
      ap (λ q. after_all m w q (drop (i + 1) cs)) c.apply.ensures.after.state ∙ sym (sheet_more m w s cs i past c.loop-i-test.true) ∙ c.loop-i.invariant.0,
      ap (λ a. take (i + 1) (set told i (Some a)) ++ answers_to m w (state_of c.apply.new.sheet) (drop (i + 1) cs)) c.apply.ensures.answer
          ∙ ap (λ q. take (i + 1) (set told i (Some (answer_to m s (get_or cs i past)))) ++ answers_to m w q (drop (i + 1) cs)) c.apply.ensures.after.state
          ∙ answers_more m w s cs i past c.loop-i-test.true told room
          ∙ c.loop-i.invariant.1,
      rest_more told c.args.answers.now i (Some c.apply.result) c.loop-i.invariant.2,
      c.apply.ensures.after.lent ∙ c.loop-i.invariant.3,
    )

pub returns : goal.returns
returns g c =
    let m = g.T.Test.meaning c.args.test.now in
    let w = g.T.Test.wide in
    let s = state_of c.loop-i.sheet in
    let cs = c.args.calls.now in
    let i = c.loop-i.i in
    let last : i ≡ length cs = omega arith in
    record {
      answers = answers_all m w s cs i c.loop-i.answers c.args.answers.now (answers_to m w (state_of c.args.sheet.now) cs) last c.loop-i.invariant.1 c.loop-i.invariant.2;
      after = record { state = sym (at_drop_all (after_all m w s) cs i c.loop-i-test.false) ∙ c.loop-i.invariant.0; lent = c.loop-i.invariant.3 };
    }
