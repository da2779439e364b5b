-- Counts of questions, and how they are shown.
use Rattle.std.specs.Prelude.{ℕ, ◌+◌, ◌-◌, ◌^◌, Bool, List, ◌++◌, cond, min, codes}
use Rattle.std.specs.Fmt.{decimal}
use Rattle.naive.specs.declared.compare.Compared.{Compared}
use Rattle.naive.specs.declared.tally.Tally.{Tally}

-- a count after one that counts or not: it stays at the largest number
abbrev pub one_more : ℕ → Bool → ℕ
one_more n counts = min (n + cond counts 1 0) (2 ^ 64 - 1)

-- the three counts, in words
abbrev pub shown : Tally → List ℕ
shown tally = decimal tally.questions ++ (codes " found " ++ (decimal tally.answered ++ (codes " differing " ++ decimal tally.differing)))

-- the counts of each kind of question, a line for each
abbrev pub all_shown : Compared → List ℕ
all_shown compared =
    codes "bounds " ++ (shown compared.bounds ++ (codes "\norders " ++ (shown compared.orders ++ (codes "\nsettlings " ++ (shown compared.settlings ++ (codes "\nfiles " ++ (shown compared.files ++ codes "\n")))))))
