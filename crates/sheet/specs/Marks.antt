-- The marks of the cores: which stand, and what a change leaves of them.
use Rattle.std.specs.Prelude.{ℕ, Bool, true, false, cond, List, map, slice_index_or, slice_set}
use Rattle.sheet.specs.declared.marks.Mark.TheVariants.{Loose, OwnCore, Wide}
use Rattle.sheet.specs.declared.marks.Mark.{Mark}

abbrev pub stands : Mark → Bool
stands Loose = false
stands OwnCore = true
stands Wide = true

-- whether a core is marked standing
abbrev pub marked : List Mark → ℕ → Bool
marked marks core = stands (slice_index_or marks core Loose)

-- the mark by a test that is wide or not
abbrev pub standing : Bool → Mark
standing wide = cond wide Wide OwnCore

-- what a change on another core leaves of a mark: a core that stands by a wide test no longer does
abbrev pub narrowed : Mark → Mark
narrowed Loose = Loose
narrowed OwnCore = OwnCore
narrowed Wide = Loose

-- what a change on a core leaves of the marks
abbrev pub loosened : List Mark → ℕ → List Mark
loosened marks core = slice_set (map narrowed marks) core Loose
