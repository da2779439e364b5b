-- What marking a core and loosening do to the mark of each core.
use Rattle.std.proofs.Common.{◌≡◌, ℕ, zero, suc, ◌<◌, Bool, true, false, List, [], ◌∷◌, map, length, get_or, set, replicate, refl, ap, ◌∙◌}
use Rattle.sheet.specs.Marks.{loosened, narrowed, standing, stands}
use Rattle.sheet.specs.declared.marks.Mark.TheVariants.{Loose}
use Rattle.sheet.specs.declared.marks.Mark.{Mark}
use Rattle.std.proofs.lemmas.List.{get_or-set_other, get_or-set_same}

abbrev pub mark_at : List Mark → ℕ → Mark
mark_at marks k = get_or marks k Loose

pub narrowed_at : (marks : List Mark) (k : ℕ) → mark_at (map narrowed marks) k ≡ narrowed (mark_at marks k)
narrowed_at [] k = refl
narrowed_at (t ∷ ts) zero = refl
narrowed_at (t ∷ ts) (suc k) = narrowed_at ts k

loose_there : (marks : List Mark) (k : ℕ) → mark_at (set marks k Loose) k ≡ Loose
loose_there [] k = refl
loose_there (t ∷ ts) zero = refl
loose_there (t ∷ ts) (suc k) = loose_there ts k

-- the core of a change is loose, and any other mark is narrowed
pub loosened_own : (marks : List Mark) (c k : ℕ) → k ≡ c → mark_at (loosened marks c) k ≡ Loose
loosened_own marks c k e = ap (mark_at (loosened marks c)) e ∙ loose_there (map narrowed marks) c

pub loosened_other : (marks : List Mark) (c k : ℕ) → (k ≡ c → ⊥) → mark_at (loosened marks c) k ≡ narrowed (mark_at marks k)
loosened_other marks c k ne = get_or-set_other (map narrowed marks) c k Loose Loose ne ∙ narrowed_at marks k

-- the core that is marked has the mark, and any other keeps its own
pub set_own : (marks : List Mark) (c k : ℕ) (mark : Mark) → c < length marks → k ≡ c → mark_at (set marks c mark) k ≡ mark
set_own marks c k mark l e = ap (mark_at (set marks c mark)) e ∙ get_or-set_same marks c mark Loose l

pub set_other : (marks : List Mark) (c k : ℕ) (mark : Mark) → (k ≡ c → ⊥) → mark_at (set marks c mark) k ≡ mark_at marks k
set_other marks c k mark ne = get_or-set_other marks c k mark Loose ne

pub standing_stands : (w : Bool) → stands (standing w) ≡ true
standing_stands true = refl
standing_stands false = refl

pub all_loose : (n k : ℕ) → mark_at (replicate n Loose) k ≡ Loose
all_loose zero k = refl
all_loose (suc n) zero = refl
all_loose (suc n) (suc k) = all_loose n k
