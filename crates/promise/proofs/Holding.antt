-- What holds of a sheet after any list of calls, from its parts. An ordering made now is the search, which decides; a
-- judging made now looks at every task of the core; and what is marked standing is bounded, by a bound that the laws of a
-- test put from 1 to the deadline.
use Rattle.std.proofs.Common.{◌≡◌, ℕ, ◌<◌, Bool, true, false, not, ltb, ◌↔◌, List, is_some, Some, None, Err, Option, sym, refl, ap, ◌∙◌, subst, arith}
use Rattle.ordering.proofs.Failing.{judged as judged-so}
use Rattle.ordering.proofs.Lawful.{decided, on_core_below}
use Rattle.ordering.proofs.Presents.{present_bounded, present_passes}
use Rattle.ordering.proofs.Sorted.{has_present}
use Rattle.ordering.specs.Judging.{Judges, unbound}
use Rattle.ordering.specs.Orders.{Answers, Impossible, Passes}
use Rattle.ordering.specs.Present.{Bounded, PresentOrder}
use Rattle.ordering.specs.Search.{DecidesOrder, Outcome, ordered, refused}
use Rattle.promise.proofs.Forms.{Formed, always_formed}
use Rattle.promise.proofs.Sounds.{always_sound, ranks_first}
use Rattle.promise.specs.Calls.{after, after_all, answer_to}
use Rattle.promise.specs.Promise.{Accepted, HasBound, OrderedFirst, RefusedWith, SheetHolds}
use Rattle.promise.specs.declared.call.Answer.TheVariants.{Judged, Ordered}
use Rattle.promise.specs.declared.call.Answer.{Answer}
use Rattle.promise.specs.declared.call.Call.TheVariants.{Judge, Order}
use Rattle.promise.specs.declared.call.Call.{Call}
use Rattle.sheet.proofs.Tasked.{task_used}
use Rattle.sheet.specs.Formed.{WellFormed}
use Rattle.sheet.specs.Passing.{asked, order_set, order_told, searched, unbound_refusal}
use Rattle.sheet.specs.State.{State, fresh}
use Rattle.sheet.specs.declared.refused.NotOrdered.TheVariants as order
use Rattle.sheet.specs.declared.refused.NotPassing.TheVariants as judge
use Rattle.std.proofs.lemmas.Bool.{and_parts, both_ways, cond-true, lt-ltb}
use Rattle.table.proofs.Places.{on_core_is, on_core_task}
use Rattle.table.specs.Ranks.{higher_ranked}
use Rattle.table.specs.Refusals.{done_unless}
use Rattle.table.specs.Rows.{on_core, row_at}
use Rattle.table.specs.Tests.{Laws, Meaning}
use Rattle.table.specs.declared.board.Board.{Board}
use Rattle.table.specs.declared.row.Row.{Row}

none_some : {X Y : Type 0} (x : X) → ◌≡◌ {A = Option X} None (Some x) → Y
none_some x e = let z : ◌≡◌ {A = ℕ} 0 1 = cc in absurd (omega arith)

not_both : (b : Bool) → b ≡ true → not b ≡ true → ⊥
not_both true e f = both_ways false refl f
not_both false e f = both_ways false refl e

module _ (m : Meaning) (w : Bool) (laws : Laws w m) where
  -- an ordering

  module _ (s : State) (core : ℕ) where
    abbrev ask : Answers
    ask = asked m s

    abbrev NothingPasses : Type 0
    NothingPasses = Impossible (asked m s) (on_core s.rows core)

    refused_as : (o : Outcome) → DecidesOrder (asked m s) (on_core s.rows core) o → RefusedWith (Ordered (order_told o)) 12 ↔ Impossible (asked m s) (on_core s.rows core)
    refused_as (ordered xs t) first = (λ e. none_some 12 e, λ none. absurd (none xs first.order first.passes))
    refused_as (refused t unplaced) none = (λ _. none, λ _. refl)

    first_as : (o : Outcome) → searched m s core ≡ o → (RefusedWith (Ordered (order_told o)) 12 → ⊥) → Accepted (Ordered (order_told o)) × OrderedFirst m (order_set w s core o) core
    first_as (ordered xs t) e h = let first = ranks_first m w laws s core xs t e in (refl, record { order = xs; present = first.present; first = first.first })
    first_as (refused t unplaced) e h = absurd (h refl)

    module _ (l : core < s.board.cores) where
      answer_is : answer_to m s (Order core) ≡ Ordered (order_told (searched m s core))
      answer_is = ap Ordered (cond-true (ltb core s.board.cores) (order_told (searched m s core)) (Err order.CoreLacking) (lt-ltb core s.board.cores l))

      after_is : after m w s (Order core) ≡ order_set w s core (searched m s core)
      after_is = cond-true (ltb core s.board.cores) (order_set w s core (searched m s core)) s (lt-ltb core s.board.cores l)

      refused_exactly : RefusedWith (answer_to m s (Order core)) 12 ↔ Impossible (asked m s) (on_core s.rows core)
      refused_exactly =
          subst (λ (a : Answer). RefusedWith a 12 ↔ Impossible (asked m s) (on_core s.rows core)) (sym answer_is)
          (refused_as (searched m s core) (decided w m laws s.board s.rows core (searched m s core) refl))

      sets_first : (RefusedWith (answer_to m s (Order core)) 12 → ⊥) → Accepted (answer_to m s (Order core)) × OrderedFirst m (after m w s (Order core)) core
      sets_first h =
          let found = first_as (searched m s core) refl (λ r. h (subst (λ (a : Answer). RefusedWith a 12) (sym answer_is) r)) in
          (subst Accepted (sym answer_is) found.0, subst (λ (t : State). OrderedFirst m t core) (sym after_is) found.1)

      -- a judging

      judge_is : answer_to m s (Judge core) ≡ Judged (done_unless (unbound_refusal (unbound (asked m s) s.rows (on_core s.rows core))))
      judge_is = ap (λ o. Judged (done_unless o)) (cond-true (ltb core s.board.cores) (unbound_refusal (unbound (asked m s) s.rows (on_core s.rows core))) (Some judge.CoreLacking) (lt-ltb core s.board.cores l))

      judged_as : (o : Option ℕ) → Judges (asked m s) s.rows core o → Accepted (Judged (done_unless (unbound_refusal o))) ↔ Bounded (asked m s) s.rows core
      judged_as None all = (λ _. all, λ _. refl)
      judged_as (Some i) named = (
        λ e. none_some _ (sym e),
        λ all.
            let t = and_parts (on_core s.rows core i) (not (is_some (asked m s i (higher_ranked s.rows i)))) named.0 in
            absurd (not_both (is_some (asked m s i (higher_ranked s.rows i))) (all i t.0) t.1),
      )

      judged_bounded : Accepted (answer_to m s (Judge core)) ↔ Bounded (asked m s) s.rows core
      judged_bounded =
          let o = unbound (asked m s) s.rows (on_core s.rows core) in
          subst (λ (a : Answer). Accepted a ↔ Bounded (asked m s) s.rows core) (sym judge_is) (judged_as o (judged-so (asked m s) s.rows core o refl))

      judged_exactly : (xs : List ℕ) → PresentOrder s.rows core xs → Accepted (answer_to m s (Judge core)) ↔ Passes (asked m s) xs
      judged_exactly xs o = (
        λ a. present_passes s.rows core (asked m s) xs o (judged_bounded.0 a),
        λ p. judged_bounded.1 (present_bounded s.rows core (asked m s) xs o p),
      )

      or_thirteen : (o : Option ℕ) → (Accepted (Judged (done_unless (unbound_refusal o))) → ⊥) → RefusedWith (Judged (done_unless (unbound_refusal o))) 13
      or_thirteen None h = absurd (h refl)
      or_thirteen (Some i) h = refl

      judged_or_refused : (Accepted (answer_to m s (Judge core)) → ⊥) → RefusedWith (answer_to m s (Judge core)) 13
      judged_or_refused h =
          subst (λ (a : Answer). RefusedWith a 13) (sym judge_is) (or_thirteen (unbound (asked m s) s.rows (on_core s.rows core)) (λ a. h (subst Accepted (sym judge_is) a)))

  -- bounds

  has_bound : (board : Board) (rows : List Row) (i : ℕ) (o : Option ℕ) → m board rows i (higher_ranked rows i) ≡ o → is_some o ≡ true → HasBound (m board rows) rows i
  has_bound board rows i None e h = absurd (both_ways false refl h)
  has_bound board rows i (Some b) e h = record { bound = b; answered = e; from_one = laws.from_one board rows i _ b e; by_deadline = laws.by_deadline board rows i _ b e }

  -- ranks

  in_order : (board : Board) (rows : List Row) (core : ℕ) → WellFormed board rows → (xs : List ℕ) × PresentOrder rows core xs
  in_order board rows core h =
      let used : (i : ℕ) → on_core rows core i ≡ true → (row_at rows i).used ≡ true = λ i on. task_used rows i (on_core_task rows core i on) in
      has_present rows core
      (λ i j on on' e. h.apart i j (on_core_below rows core i on) (on_core_below rows core j on') (used i on) (used j on') (on_core_is rows core i on ∙ sym (on_core_is rows core j on')) e)
      (λ i on. let q = h.lawful i (on_core_below rows core i on) (used i on) in (q.rank_from, q.rank_to))

  -- together

  pub sheet_holds : (board : Board) (rows : List Row) (cs : List Call) → SheetHolds m w board (after_all m w (fresh board rows) cs)
  sheet_holds board rows cs =
      let s = after_all m w (fresh board rows) cs in
      let formed : Formed board rows (after_all m w (fresh board rows) cs) = always_formed board rows m w laws cs in
      record {
        same_board = formed.same;
        cores = λ core l.
            let inside : core < (after_all m w (fresh board rows) cs).board.cores = subst (λ (b : Board). core < b.cores) (sym formed.same) l in
            record {
              refused_exactly = refused_exactly s core inside;
              sets_first = sets_first s core inside;
              has_order = in_order s.board s.rows core formed.well;
              judged_exactly = judged_exactly s core inside;
              judged_or_refused = judged_or_refused s core inside;
              standing_bounded = λ up i on. has_bound s.board s.rows i (asked m s i (higher_ranked s.rows i)) refl (always_sound m w laws board rows cs core up i on);
            };
        well_formed = subst (λ (b : Board). WellFormed b (after_all m w (fresh board rows) cs).rows) formed.same formed.well;
      }
