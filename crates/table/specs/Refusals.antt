-- The refusals: what a call answers, and the numbers that a program prints and a person reads.
use Rattle.std.specs.Prelude.{ℕ, Some, None, Ok, Err, Option, Result}
use Rattle.table.specs.declared.refusal.Refusal.TheVariants.{BlockCheck, BlockLayout, BlockNumber, BoardLimits, BufferTooShort, CoreLacking, FigureLimits, FileLength, NoBound, NoOrder, NumberEmpty, NumberOccupied, NumberTooLarge, RankUnavailable}
use Rattle.table.specs.declared.refusal.Refusal.{Refusal}

abbrev pub number_of : Refusal → ℕ
number_of BoardLimits = 1
number_of FileLength = 2
number_of BlockCheck = 3
number_of BlockNumber = 4
number_of BlockLayout = 5
number_of FigureLimits = 6
number_of NumberTooLarge = 7
number_of NumberOccupied = 8
number_of NumberEmpty = 9
number_of CoreLacking = 10
number_of RankUnavailable = 11
number_of NoOrder = 12
number_of NoBound = 13
number_of BufferTooShort = 14

-- what a call answers that tells nothing but its refusal
abbrev pub done_unless : {R : Type 0} → Option R → Result (Unit {0}) R
done_unless None = Ok tt
done_unless (Some why) = Err why
