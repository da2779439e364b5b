-- Calls one after another, as the loop makes them: what is left of the list, from the sheet so far, comes to what the
-- whole list comes to from the start; and the answers so far, with those of what is left, are those of the whole list.
use Rattle.std.proofs.Common.{◌≡◌, ℕ, ◌+◌, ◌<◌, Bool, List, [], ◌∷◌, ◌++◌, length, get_or, take, drop, set, Some, Option, sym, ap, ◌∙◌, arith}
use Rattle.promise.specs.Calls.{after, after_all, answer_to, answers_to}
use Rattle.promise.specs.declared.call.Answer.{Answer}
use Rattle.promise.specs.declared.call.Call.{Call}
use Rattle.sheet.specs.State.{State}
use Rattle.std.proofs.lemmas.List.{append_assoc, append-nil, at_drop_all, at_drop_more, drop-drop, drop-set-lt, take-append-drop, take_more_set}
use Rattle.table.specs.Tests.{Meaning}

module _ (m : Meaning) (w : Bool) (s : State) (cs : List Call) (i : ℕ) where
  module _ (d : Call) (inside : i < length cs) where
    pub sheet_more : after_all m w s (drop i cs) ≡ after_all m w (after m w s (get_or cs i d)) (drop (i + 1) cs)
    sheet_more = at_drop_more (after_all m w s) cs i d inside

    -- the answers so far, with one more written at i
    pub answers_more : (told : List (Option Answer)) → i < length told → take (i + 1) (set told i (Some (answer_to m s (get_or cs i d)))) ++ answers_to m w (after m w s (get_or cs i d)) (drop (i + 1) cs) ≡ take i told ++ answers_to m w s (drop i cs)
    answers_more told h =
        let answer : Option Answer = Some (answer_to m s (get_or cs i d)) in
        let rest = answers_to m w (after m w s (get_or cs i d)) (drop (i + 1) cs) in
        ap (λ xs. xs ++ rest) (take_more_set told i answer h)
        ∙ append_assoc (take i told) (answer ∷ []) rest
        ∙ ap (λ xs. take i told ++ xs) (sym (at_drop_more (answers_to m w s) cs i d inside))

  pub answers_all : (told before all : List (Option Answer)) → i ≡ length cs → take i told ++ answers_to m w s (drop i cs) ≡ all → drop i told ≡ drop i before → told ≡ all ++ drop (length cs) before
  answers_all told before all e h r =
      sym (take-append-drop i told)
      ∙ ap (λ xs. xs ++ drop i told) (sym (append-nil (take i told)) ∙ ap (λ xs. take i told ++ xs) (sym (at_drop_all (answers_to m w s) cs i (omega arith))) ∙ h)
      ∙ ap (λ xs. all ++ xs) (r ∙ ap (λ n. drop n before) e)

pub rest_more : (told before : List (Option Answer)) (i : ℕ) (a : Option Answer) → drop i told ≡ drop i before → drop (i + 1) (set told i a) ≡ drop (i + 1) before
rest_more told before i a e = drop-set-lt (i + 1) told i a (omega arith) ∙ sym (drop-drop 1 i told) ∙ ap (drop 1) e ∙ drop-drop 1 i before
