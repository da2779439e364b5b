-- Sets of task numbers, as the second reckoning keeps them.
use Rattle.std.specs.Prelude.{false, slice_index_or}
use Rattle.naive.specs.declared.numbers.Numbers.{Numbers}
use Rattle.table.specs.Sets.{Set}

-- the numbers that it holds
abbrev pub members : Numbers → Set
members s k = slice_index_or s.flags k false
