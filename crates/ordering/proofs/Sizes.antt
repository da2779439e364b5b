-- An order of a core's tasks has as many numbers as there are tasks: its lowest put away leaves an order of the others,
-- which are one less. So it has at most 64.
use Rattle.std.proofs.Common.{◌≡◌, ℕ, ◌≤◌, true, List, [], ◌∷◌, length, sym, arith}
use Rattle.ordering.proofs.Audsley.{MembersBelow}
use Rattle.ordering.proofs.Lawful.{on_core_below}
use Rattle.ordering.proofs.Listing.{order_head, order_tail}
use Rattle.ordering.specs.Orders.{OrderOf}
use Rattle.table.proofs.Flags.{count_le, count_none, count_without, without_within}
use Rattle.table.specs.Rows.{on_core}
use Rattle.table.specs.Sets.{Set, count_below, without}
use Rattle.table.specs.declared.row.Row.{Row}

order_size : (xs : List ℕ) (U : Set) → MembersBelow U → OrderOf U xs → length xs ≡ count_below U 64
order_size [] U m o = sym (count_none U 64 (λ j. sym (o.each j)))
order_size (x ∷ xs) U m o =
    let there : U x ≡ true = order_head U x xs o in
    omega (arith, order_size xs (without U x) (λ j h. m j (without_within U x j h)) (order_tail U x xs o), count_without U x 64 (m x there) there)

pub order_short : (rows : List Row) (core : ℕ) (xs : List ℕ) → OrderOf (on_core rows core) xs → length xs ≤ 64
order_short rows core xs o = omega (arith, order_size xs (on_core rows core) (on_core_below rows core) o, count_le (on_core rows core) 64)
