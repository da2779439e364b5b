-- A record that was written is read back.
use Rattle.std.proofs.Common.{◌≡◌, ℕ, ◌*◌, ◌^◌, ◌<◌, Bool, true, cond, List, [], ◌∷◌, length, get_or, take, drop, sym, refl, ap, ◌∙◌, arith}
use Rattle.std.proofs.lemmas.List.{append-nil}
use Rattle.std.proofs.lemmas.Bool.{and_parts, eq-eqb}
use Rattle.table.proofs.Limited.{Limited, each_small, limited}
use Rattle.table.specs.Limits.{in_limits}
use Rattle.table.specs.Rows.{holds_task}
use Rattle.table.specs.declared.row.Figures.{Figures}
use Rattle.tablefile.proofs.Laid.{part_laid}
use Rattle.tablefile.proofs.Lengths.{length_record}
use Rattle.tablefile.proofs.Spelled.{spells_spelled}
use Rattle.tablefile.specs.Layout.{no_record, record_bytes, word_in, words}
use Rattle.tablefile.specs.Numbers.{Four}
use Rattle.tablefile.specs.Parts.{laid}
use Rattle.tablefile.specs.Reading.{record_of, spelled_record}
use Rattle.tablefile.specs.Spelling.{spells}
use Rattle.tablefile.specs.declared.records.Record.{Record}

-- one of the eleven numbers
word_back : (f : Figures) (i : ℕ) → i < 11 → get_or (words f) i 0 < 256 ^ 4 → spells (take 4 (drop (4 * i) (laid 11 (word_in (words f))))) ≡ get_or (words f) i 0
word_back f i h l =
    ap (λ xs. spells (take 4 (drop (4 * i) xs))) (sym (append-nil (laid 11 (word_in (words f)))))
    ∙ ap spells (part_laid 4 11 i (word_in (words f)) [] (λ k b. refl) h)
    ∙ spells_spelled 4 (get_or (words f) i 0) l

four_of : (xs : List ℕ) → length xs ≡ 4 → get_or xs 0 0 ∷ get_or xs 1 0 ∷ get_or xs 2 0 ∷ get_or xs 3 0 ∷ [] ≡ xs
four_of [] e = absurd (omega arith)
four_of (a ∷ []) e = absurd (omega arith)
four_of (a ∷ b ∷ []) e = absurd (omega arith)
four_of (a ∷ b ∷ c ∷ []) e = absurd (omega arith)
four_of (a ∷ b ∷ c ∷ d ∷ []) e = refl
four_of (a ∷ b ∷ c ∷ d ∷ x ∷ xs) e = absurd (omega arith)

four_same : {a b c d e f g h : ℕ} → a ≡ e → b ≡ f → c ≡ g → d ≡ h → a ∷ b ∷ c ∷ d ∷ [] ≡ e ∷ f ∷ g ∷ h ∷ []
four_same p q r s = cc

made : Record → Bool → ℕ → ℕ → ℕ → List ℕ → List ℕ → Record
made r u c t d x y = record { number = r.number; fourth = r.fourth; row = record { used = u; core = r.row.core; rank = r.row.rank; figures = record { cost = c; period = t; deadline = d; sensitivity = x; stress = y } } }

same : (r : Record) {u u' : Bool} {c t d c' t' d' : ℕ} {x y x' y' : List ℕ} → u ≡ u' → c ≡ c' → t ≡ t' → d ≡ d' → x ≡ x' → y ≡ y' → made r u c t d x y ≡ made r u' c' t' d' x' y'
same r e0 e1 e2 e3 e4 e5 = cc

-- what was written of a task's row is read back
pub record_back : (r : Record) → holds_task r.row ≡ true → Four r.row.figures → record_of (record_bytes r) ≡ r
unfolding record_of record_bytes made
record_back r e four =
    let f = r.row.figures in
    let both = and_parts r.row.used (in_limits f) e in
    let within : Limited f = limited f both.1 in
    let cost = within.cost_high in
    let period = within.period_high in
    let deadline = within.deadline_high in
    let x = each_small f.sensitivity within.sensitivity_small in
    let y = each_small f.stress within.stress_small in
    ap (λ b. cond b (spelled_record (record_bytes r)) no_record) (eq-eqb (length (record_bytes r)) 48 (length_record r))
    ∙ same r (sym both.0)
    (word_back f 0 (omega arith) (omega (arith, cost)))
    (word_back f 1 (omega arith) (omega (arith, period)))
    (word_back f 2 (omega arith) (omega (arith, deadline, period)))
    (four_same (word_back f 3 (omega arith) (omega (arith, x 0 (omega arith)))) (word_back f 4 (omega arith) (omega (arith, x 1 (omega arith)))) (word_back f 5 (omega arith) (omega (arith, x 2 (omega arith)))) (word_back f 6 (omega arith) (omega (arith, x 3 (omega arith)))) ∙ four_of f.sensitivity four.sensitivities)
    (four_same (word_back f 7 (omega arith) (omega (arith, y 0 (omega arith)))) (word_back f 8 (omega arith) (omega (arith, y 1 (omega arith)))) (word_back f 9 (omega arith) (omega (arith, y 2 (omega arith)))) (word_back f 10 (omega arith) (omega (arith, y 3 (omega arith)))) ∙ four_of f.stress four.stresses)
