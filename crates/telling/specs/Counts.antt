-- A counted word.
use Rattle.std.specs.Fmt.{decimal}
use Rattle.std.specs.Prelude.{ℕ, cond, List, [], ◌++◌, codes, ◌==◌}

-- what follows the word: nothing for one, else an s
abbrev pub plural : ℕ → List ℕ
plural n = cond (n == 1) [] (codes "s")

-- the number and the word: "1 core", "2 cores"
unfoldable pub counted_text : ℕ → List ℕ → List ℕ
counted_text n word = decimal n ++ (codes " " ++ (word ++ plural n))
