-- Flags that are set, counted in their list and counted as members.
use Rattle.std.proofs.Common.{◌≡◌, ℕ, zero, suc, ◌+◌, ◌≤◌, Bool, false, List, length, get_or, take, sym, ap, ◌∙◌, inl, inr, add-one, arith}
use Rattle.std.proofs.lemmas.Bool.{cases_Bool}
use Rattle.std.proofs.lemmas.List.Sums.{count_by_more_no, count_by_more_yes}
use Rattle.std.specs.List.{count_by}
use Rattle.table.proofs.Flags.{count_in, count_out, count_zero}
use Rattle.table.specs.Sets.{Set, count_below}

abbrev flagged : List Bool → Set
flagged xs k = get_or xs k false

pub counted : (xs : List Bool) (n : ℕ) → n ≤ length xs → count_by (λ b. b) (take n xs) ≡ count_below (flagged xs) n
counted xs zero h = sym (count_zero (flagged xs))
counted xs (suc n) h =
    let before = counted xs n (omega arith) in
    elim (cases_Bool (flagged xs n)) [
      | inl yes' ↦ ap (λ m. count_by (λ b. b) (take m xs)) (sym (add-one n)) ∙ count_by_more_yes (λ b. b) xs n false (omega arith) yes' ∙ ap (λ x. x + 1) before ∙ sym (count_in (flagged xs) n yes')
      | inr no' ↦ ap (λ m. count_by (λ b. b) (take m xs)) (sym (add-one n)) ∙ count_by_more_no (λ b. b) xs n false (omega arith) no' ∙ before ∙ sym (count_out (flagged xs) n no')
    ]
