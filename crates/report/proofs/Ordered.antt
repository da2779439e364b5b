-- The calls of the program, a load and then an ordering of each core of the board, come to what is printed: the load
-- answers first, and the orderings are made one after the other.
use Rattle.std.proofs.Common.{◌≡◌, ℕ, zero, suc, ◌+◌, ◌≤◌, Bool, true, false, cond, ltb, List, [], ◌∷◌, ◌++◌, get_or, take, Some, None, Option, Ok, Err, Result, refl, ap, ◌∙◌, add-one, arith, Bor}
use Rattle.bounds.specs.Bounds.{deadline_bound}
use Rattle.ordering.specs.Search.{Outcome, ordered, refused}
use Rattle.promise.specs.Calls.{after_all, answers_to}
use Rattle.promise.specs.declared.call.Answer.TheVariants.{Loaded}
use Rattle.promise.specs.declared.call.Answer.{Answer}
use Rattle.promise.specs.declared.call.Call.TheVariants.{Load, Order}
use Rattle.promise.specs.declared.call.Call.{Call}
use Rattle.report.specs.Program.{after_loading, blank, ordered_cores, printed_for, stop_in}
use Rattle.sheet.proofs.Entering.{load_loads}
use Rattle.sheet.specs.Editing.{entered, entry_of}
use Rattle.sheet.specs.Loading.{Enters, after_load, count_told, load_answer, loaded}
use Rattle.sheet.specs.Passing.{order_set, searched}
use Rattle.sheet.specs.State.{State}
use Rattle.sheet.specs.declared.refused.Stopped.{Stopped}
use Rattle.table.specs.Refusals.{number_of}
use Rattle.table.specs.declared.board.Board.{Board}
use Rattle.report.specs.Lines.{refused_line}
use Rattle.report.specs.Report.{report_text}
use Rattle.tablefile.specs.Reading.{records_of}
use Rattle.tablefile.specs.declared.records.Record.{Record}

-- an ordering of each core that a board may have
abbrev pub orders : List Call
orders = Order 0 ∷ Order 1 ∷ Order 2 ∷ Order 3 ∷ Order 4 ∷ Order 5 ∷ Order 6 ∷ Order 7 ∷ []

-- the first n of them
in_turn : (s : State) (n : ℕ) → n ≤ 8 → after_all deadline_bound true s (take n orders) ≡ ordered_cores s n
in_turn s zero l = refl
in_turn s (suc zero) l = refl
in_turn s (suc (suc zero)) l = refl
in_turn s (suc (suc (suc zero))) l = refl
in_turn s (suc (suc (suc (suc zero)))) l = refl
in_turn s (suc (suc (suc (suc (suc zero))))) l = refl
in_turn s (suc (suc (suc (suc (suc (suc zero)))))) l = refl
in_turn s (suc (suc (suc (suc (suc (suc (suc zero))))))) l = refl
in_turn s (suc (suc (suc (suc (suc (suc (suc (suc zero)))))))) l = refl
in_turn s (suc (suc (suc (suc (suc (suc (suc (suc (suc n))))))))) l = absurd (omega arith)

module _ (file : Bor (List ℕ)) (s : State) (n k : ℕ) (one_more : k ≡ n + 1) where
  pub load_first : (rest : List (Option Answer)) (d : Option Answer) → get_or (answers_to deadline_bound true s (take k (Load file ∷ orders)) ++ rest) 0 d ≡ Some (Loaded (load_answer s file.now))
  load_first rest d = ap (λ i. get_or (answers_to deadline_bound true s (take i (Load file ∷ orders)) ++ rest) 0 d) (one_more ∙ add-one n)

  pub then_orders : n ≤ 8 → after_all deadline_bound true s (take k (Load file ∷ orders)) ≡ ordered_cores (after_load s file.now) n
  then_orders l = ap (λ i. after_all deadline_bound true s (take i (Load file ∷ orders))) (one_more ∙ add-one n) ∙ in_turn (after_load s file.now) n l

-- by what the load answered

some_stop : (board : Board) (bytes : List ℕ) (r : Result ℕ Stopped) (stop : Stopped) → stop_in (Some (Loaded r)) ≡ Some stop → after_loading board bytes r ≡ refused_line (number_of stop.cause) stop.entered
some_stop board bytes (Ok n) stop e = let z : ◌≡◌ {A = ℕ} 0 1 = cc in absurd (omega arith)
some_stop board bytes (Err why) stop e = let z : why ≡ stop = cc in ap (λ (p : Stopped). refused_line (number_of p.cause) p.entered) z

no_stop : (board : Board) (bytes : List ℕ) (r : Result ℕ Stopped) → stop_in (Some (Loaded r)) ≡ None → after_loading board bytes r ≡ report_text deadline_bound (ordered_cores (after_load (blank board) bytes) board.cores)
no_stop board bytes (Ok n) e = refl
no_stop board bytes (Err why) e = let z : ◌≡◌ {A = ℕ} 0 1 = cc in absurd (omega arith)

pub prints_stop : (board : Board) (bytes : List ℕ) (stop : Stopped) → stop_in (Some (Loaded (load_answer (blank board) bytes))) ≡ Some stop → printed_for board bytes ≡ refused_line (number_of stop.cause) stop.entered
prints_stop board bytes stop e = some_stop board bytes (load_answer (blank board) bytes) stop e

pub prints_report : (board : Board) (bytes : List ℕ) → stop_in (Some (Loaded (load_answer (blank board) bytes))) ≡ None → printed_for board bytes ≡ report_text deadline_bound (ordered_cores (after_load (blank board) bytes) board.cores)
prints_report board bytes e = no_stop board bytes (load_answer (blank board) bytes) e

-- the board stays the same

entered_board : (rs : List Record) (s t : State) → Enters s rs t → t.board ≡ s.board
entered_board [] s t e = ap (λ (z : State). z.board) e
entered_board (r ∷ rs) s t e = entered_board rs (entered s (entry_of r)) t e.1

order_board : (s : State) (core : ℕ) (a : Bool) (o : Outcome) → (cond a (order_set true s core o) s).board ≡ s.board
order_board s core true (ordered xs t) = refl
order_board s core true (refused t unplaced) = refl
order_board s core false o = refl

cores_board : (s : State) (n : ℕ) → (ordered_cores s n).board ≡ s.board
cores_board s zero = refl
cores_board s (suc n) =
    let t = ordered_cores s n in
    order_board t n (ltb n t.board.cores) (searched deadline_bound t n) ∙ cores_board s n

pub end_board : (board : Board) (bytes : List ℕ) → (ordered_cores (after_load (blank board) bytes) board.cores).board ≡ board
end_board board bytes =
    cores_board (after_load (blank board) bytes) board.cores
    ∙ entered_board (take (count_told (load_answer (blank board) bytes)) (records_of bytes)) (blank board) (after_load (blank board) bytes) (load_loads bytes (blank board) (loaded (blank board) bytes) refl).enters
