-- How many tasks are tried at a place: no more than are left.
use Rattle.std.proofs.Common.{ℕ, ◌+◌, ◌≤◌, Some, None, Option, arith}
use Rattle.ordering.specs.Orders.{Answers}
use Rattle.ordering.specs.Search.{can_take, first_taker, size, tried}
use Rattle.table.proofs.Firsts.{FirstBelow, first_is}
use Rattle.table.proofs.Flags.{count_rises}
use Rattle.table.specs.Sets.{Set}

-- what is known of the taker of a place
abbrev pub Took : Answers → Set → Option ℕ → Type 0
Took ask U o = FirstBelow (can_take ask U) 64 o

pub took : (ask : Answers) (U : Set) → Took ask U (first_taker ask U)
took ask U = first_is (can_take ask U) 64

pub tried_le : (ask : Answers) (U : Set) (o : Option ℕ) → Took ask U o → tried U o ≤ size U
tried_le ask U None h = omega arith
tried_le ask U (Some k) h = count_rises U (k + 1) 64 (omega (arith, h.0))
