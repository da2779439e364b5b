-- Boards with the same numbers are the same board: the facts that they carry have one proof each.
use Rattle.std.proofs.Common.{◌≡◌, ℕ, ◌≤◌, ap, ◌∙◌, subst}
use Rattle.table.specs.declared.board.Board.{Board}
use native.Mathlib.Bridge.{le_prop}

pub same_board : (m h : ℕ) (a a' : 1 ≤ m) (b b' : m ≤ 8) (c c' : h ≤ 4) → ◌≡◌ {A = Board} (record { cores = m; resources = h; some_core = a; few_cores = b; few_resources = c }) (record { cores = m; resources = h; some_core = a'; few_cores = b'; few_resources = c' })
same_board m h a a' b b' c c' =
    let board : 1 ≤ m → m ≤ 8 → h ≤ 4 → Board = λ x y z. record { cores = m; resources = h; some_core = x; few_cores = y; few_resources = z } in
    ap (λ x. board x b c) (le_prop a a') ∙ ap (λ y. board a' y c) (le_prop b b') ∙ ap (λ z. board a' b' z) (le_prop c c')

pub same_boards : (a b : Board) → a.cores ≡ b.cores → a.resources ≡ b.resources → a ≡ b
same_boards a b p q =
    subst (λ m. (x : 1 ≤ m) (y : m ≤ 8) → ◌≡◌ {A = Board} a (record { cores = m; resources = b.resources; some_core = x; few_cores = y; few_resources = b.few_resources })) p
    (subst (λ h. (z : h ≤ 4) (x : 1 ≤ a.cores) (y : a.cores ≤ 8) → ◌≡◌ {A = Board} a (record { cores = a.cores; resources = h; some_core = x; few_cores = y; few_resources = z })) q
    (λ z x y. same_board a.cores a.resources a.some_core x a.few_cores y a.few_resources z)
    b.few_resources)
    b.some_core
    b.few_cores
