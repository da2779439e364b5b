-- The numbers of the refusals as the model of the sheet writes them.
use Rattle.std.specs.Prelude.{ℕ, ◌&&◌, cond, nat_le}
use Rattle.sheetreckoning.specs.declared.answers.Cause.{Cause}
use Rattle.sheetreckoning.specs.declared.answers.Cause.TheVariants.{FileLength, BlockCheck, BlockNumber, BlockLayout, FigureLimits, NumberTooLarge, NumberOccupied, NumberEmpty, CoreLacking, RankUnavailable, NoOrder, NoBound, BufferTooShort, Unknown, Open}

-- the number of a refusal, or 0 where it is none of the model's
abbrev pub number_written : Cause → ℕ
number_written FileLength = 2
number_written BlockCheck = 3
number_written BlockNumber = 4
number_written BlockLayout = 5
number_written FigureLimits = 6
number_written NumberTooLarge = 7
number_written NumberOccupied = 8
number_written NumberEmpty = 9
number_written CoreLacking = 10
number_written RankUnavailable = 11
number_written NoOrder = 12
number_written NoBound = 13
number_written BufferTooShort = 14
number_written Unknown = 0
number_written Open = 0

-- a number that the model writes, or 0
abbrev pub known : ℕ → ℕ
known n = cond (nat_le 2 n && nat_le n 14) n 0
