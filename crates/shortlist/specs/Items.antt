-- What a list holds.
use Rattle.std.specs.Prelude.{ℕ, List, take}
use Rattle.shortlist.specs.declared.ShortList.{ShortList}

-- the values, in order: those in the first places
abbrev pub items : {T : Type 0} {N : ℕ} → ShortList T N → List T
items s = take s.len s.places
