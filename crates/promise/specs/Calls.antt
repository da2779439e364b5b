-- Calls one after the other, all by one test: what each answers, and the sheet after it.
use Rattle.promise.specs.declared.call.Answer.TheVariants.{Amended, Entered, Judged, Loaded, Ordered, Withdrawn}
use Rattle.promise.specs.declared.call.Answer.{Answer}
use Rattle.promise.specs.declared.call.Call.TheVariants.{Amend, Enter, Judge, Load, Order, Withdraw}
use Rattle.promise.specs.declared.call.Call.{Call}
use Rattle.sheet.specs.Editing.{after_amend, after_enter, after_withdraw, amend_answer, enter_answer, withdraw_answer}
use Rattle.sheet.specs.Loading.{after_load, load_answer}
use Rattle.sheet.specs.Passing.{after_judge, after_order, judge_answer, order_answer}
use Rattle.sheet.specs.Refused.{refusal_of_judge, refusal_of_order}
use Rattle.sheet.specs.State.{State}
use Rattle.std.specs.Prelude.{Bool, List, [], ◌∷◌, Some, None, Ok, Err, Option}
use Rattle.table.specs.Tests.{Meaning}
use Rattle.table.specs.declared.refusal.Refusal.{Refusal}

-- what a call answers
abbrev pub answer_to : Meaning → State → Call → Answer
answer_to m s (Enter e) = Entered (enter_answer s e)
answer_to m s (Load bytes) = Loaded (load_answer s bytes.now)
answer_to m s (Withdraw n) = Withdrawn (withdraw_answer s n)
answer_to m s (Amend n f) = Amended (amend_answer s n f)
answer_to m s (Judge core) = Judged (judge_answer m s core)
answer_to m s (Order core) = Ordered (order_answer m s core)

-- the sheet after a call
abbrev pub after : Meaning → Bool → State → Call → State
after m wide s (Enter e) = after_enter s e
after m wide s (Load bytes) = after_load s bytes.now
after m wide s (Withdraw n) = after_withdraw s n
after m wide s (Amend n f) = after_amend s n f
after m wide s (Judge core) = after_judge m wide s core
after m wide s (Order core) = after_order m wide s core

-- the answers of a list of calls, each in the place that was kept for it
abbrev pub answers_to : Meaning → Bool → State → List Call → List (Option Answer)
answers_to m wide s [] = []
answers_to m wide s (c ∷ cs) = Some (answer_to m s c) ∷ answers_to m wide (after m wide s c) cs

-- the sheet after a list of calls
abbrev pub after_all : Meaning → Bool → State → List Call → State
after_all m wide s [] = s
after_all m wide s (c ∷ cs) = after_all m wide (after m wide s c) cs

-- why a call was refused, if it was
abbrev pub refusal_in : Answer → Option Refusal
refusal_in (Entered (Ok done)) = None
refusal_in (Entered (Err why)) = Some why
refusal_in (Loaded (Ok n)) = None
refusal_in (Loaded (Err stop)) = Some stop.cause
refusal_in (Withdrawn (Ok done)) = None
refusal_in (Withdrawn (Err why)) = Some why
refusal_in (Amended (Ok done)) = None
refusal_in (Amended (Err why)) = Some why
refusal_in (Judged (Ok done)) = None
refusal_in (Judged (Err why)) = Some (refusal_of_judge why)
refusal_in (Ordered (Ok trials)) = None
refusal_in (Ordered (Err why)) = Some (refusal_of_order why)
