-- The search decides for every test that keeps the laws; only "fewer above keeps a bound" is used.
use Rattle.std.proofs.Common.{◌≡◌, ℕ, Bool, true, List, is_some, Some, None, Option, sym, refl, subst}
use Rattle.ordering.proofs.Audsley.{FewerKeeps, MembersBelow, search_decides}
use Rattle.ordering.proofs.Trials.{search_few}
use Rattle.ordering.specs.Orders.{Answers}
use Rattle.ordering.specs.Search.{DecidesOrder, FewTrials, Outcome, search_for}
use Rattle.std.proofs.lemmas.Bool.{false≢true}
use Rattle.table.proofs.Places.{on_core_task, task_below}
use Rattle.table.specs.Rows.{on_core}
use Rattle.table.specs.Tests.{Laws, Meaning, NoLater}
use Rattle.table.specs.declared.board.Board.{Board}
use Rattle.table.specs.declared.row.Row.{Row}

still_some : (o p : Option ℕ) → NoLater o p → is_some o ≡ true → is_some p ≡ true
still_some None p h e = absurd (false≢true e)
still_some (Some b) None h e = absurd h
still_some (Some b) (Some c) h e = refl

pub fewer_keeps : (wide : Bool) (meaning : Meaning) → Laws wide meaning → (board : Board) (rows : List Row) → FewerKeeps (meaning board rows)
fewer_keeps wide meaning laws board rows i G H within = still_some (meaning board rows i H) (meaning board rows i G) (laws.fewer board rows i G H within)

pub on_core_below : (rows : List Row) (core : ℕ) → MembersBelow (on_core rows core)
on_core_below rows core k on = task_below rows k (on_core_task rows core k on)

pub decided : (wide : Bool) (meaning : Meaning) → Laws wide meaning → (board : Board) (rows : List Row) (core : ℕ) (o : Outcome) → o ≡ search_for (meaning board rows) (on_core rows core) → DecidesOrder (meaning board rows) (on_core rows core) o
decided wide meaning laws board rows core o e =
    subst (DecidesOrder (meaning board rows) (on_core rows core)) (sym e)
    (search_decides (meaning board rows) (fewer_keeps wide meaning laws board rows) (on_core rows core) (on_core_below rows core))

pub tried_few : (ask : Answers) (rows : List Row) (core : ℕ) (o : Outcome) → o ≡ search_for ask (on_core rows core) → FewTrials (on_core rows core) o
tried_few ask rows core o e = subst (FewTrials (on_core rows core)) (sym e) (search_few ask (on_core rows core))
