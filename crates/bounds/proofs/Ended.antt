-- What an answer of the rounds means: the round that ends them is the first of its kind, and its list is the least joint
-- solution, or there is none. By induction over the rounds, from the fair starting list.
use Rattle.std.proofs.Common.{◌≡◌, ℕ, zero, suc, ◌+◌, false, List, Some, Ok, Err, Option, Result, sym, refl, ap, ◌∙◌, subst, inl, inr, arith}
use Rattle.bounds.proofs.Fair.{Fair, fair_next, fair_start, least_joint, no_joint, refused_parts}
use Rattle.bounds.proofs.Listed.{same_decides}
use Rattle.bounds.specs.Endings.{Ends, Moving, list_in, list_of, next_list}
use Rattle.bounds.specs.Rounds.{Answer, ended, response, round_after, rounds, same, settled, start, the_answer}
use Rattle.bounds.specs.Solutions.{SettlesLeast}
use Rattle.std.proofs.lemmas.Bool.{both_ways, cases_Bool, cases_eq, cond-false, cond-true}
use Rattle.std.proofs.lemmas.Option.{same_Some}
use Rattle.table.specs.declared.board.Board.{Board}
use Rattle.table.specs.declared.row.Row.{Row}

module _ (board : Board) (rows : List Row) where
  list_next : (b : ℕ) (list : List ℕ) (q : Result (List ℕ) ℕ) → list_of board rows b ≡ Some list → round_after board rows list ≡ q → list_of board rows (suc b) ≡ list_in q
  unfolding list_of
  list_next b list q old is = ap (next_list board rows) old ∙ ap list_in is

  moving_more : (b : ℕ) (list next : List ℕ) → list_of board rows b ≡ Some list → list_of board rows (suc b) ≡ Some next → same next list ≡ false → Moving board rows b → Moving board rows (suc b)
  moving_more b list next old new differ moving k l e =
      elim (cases_eq k b) [
        | inl here ↦
            let z : k + 1 ≡ suc b = omega arith in
            let eq : next ≡ list = same_Some _ _ (sym new ∙ ap (list_of board rows) (sym z) ∙ e ∙ ap (list_of board rows) here ∙ old) in
            both_ways (same next list) differ ((same_decides next list).1 eq)
        | inr other ↦ moving k (omega arith) e
      ]

  -- what is told of an answer
  pub record Meant (r : Answer) : Type 0 where
    pub ends : Ends board rows r
    pub least : SettlesLeast board rows r

  -- one round
  module _ (b : ℕ) (list : List ℕ) (fair : Fair board rows list) (old : list_of board rows b ≡ Some list) (moving : Moving board rows b) where
    meant_same : (k : ℕ) (next : List ℕ) → k ≡ b + 1 → round_after board rows list ≡ Ok next → next ≡ list → Meant (Ok (record { round = k; bounds = next }))
    meant_same k next counted is eq =
        let z : k ≡ suc b = omega arith in
        record {
          ends = record {
            before = b;
            counted = counted;
            old = old ∙ ap Some (sym eq);
            new = ap (list_of board rows) z ∙ list_next b list (Ok next) old is;
            moving = moving;
          };
          least = least_joint board rows next (subst (Fair board rows) (sym eq) fair) (ap (round_after board rows) eq ∙ is);
        }

    meant_refused : (k i : ℕ) → k ≡ b + 1 → round_after board rows list ≡ Err i → Meant (Err (record { task = i; round = k }))
    meant_refused k i counted is =
        let parts = refused_parts board rows list i is in
        record {
          ends = record { before = b; counted = counted; last = list; old = old; unbounded = parts.1; smallest = parts.2; moving = moving };
          least = no_joint board rows list i is fair;
        }

    ended_means : (k : ℕ) (q : Result (List ℕ) ℕ) (rest : List ℕ → Option Answer) (r : Answer) → k ≡ b + 1 → round_after board rows list ≡ q → ((next : List ℕ) → Fair board rows next → list_of board rows (suc b) ≡ Some next → Moving board rows (suc b) → rest next ≡ Some r → Meant r) → ended k list q rest ≡ Some r → Meant r
    ended_means k (Ok next) rest r counted is on e =
        elim (cases_Bool (same next list)) [
          | inl eq ↦ subst Meant (same_Some _ _ (sym (cond-true _ _ _ eq) ∙ e)) (meant_same k next counted is ((same_decides next list).0 eq))
          | inr differ ↦
              let new = list_next b list (Ok next) old is in
              on next (fair_next board rows list next is fair) new (moving_more b list next old new differ moving) (sym (cond-false _ _ _ differ) ∙ e)
        ]
    ended_means k (Err i) rest r counted is on e = subst Meant (same_Some _ _ e) (meant_refused k i counted is)

  rounds_mean : (n b k : ℕ) (list : List ℕ) (r : Answer) → k ≡ b + 1 → Fair board rows list → list_of board rows b ≡ Some list → Moving board rows b → rounds board rows n k list ≡ Some r → Meant r
  unfolding rounds
  rounds_mean zero b k list r counted fair old moving e = absurd (let z : ◌≡◌ {A = ℕ} 0 1 = cc in omega arith)
  rounds_mean (suc n) b k list r counted fair old moving e =
      ended_means b list fair old moving k (round_after board rows list) (rounds board rows n (suc k)) r counted refl
      (λ next f new moves. rounds_mean n (suc b) (suc k) next r (omega arith) f new moves) e

  pub response_means : (r : Answer) → response board rows ≡ Some r → Meant r
  unfolding response list_of
  response_means r e = rounds_mean 640000001 0 1 (start board rows) r refl (fair_start board rows) refl (λ k l. absurd (omega arith)) e

  pub response_answer : (r : Answer) → response board rows ≡ Some r → r ≡ settled board rows
  unfolding settled
  response_answer r e = sym (ap the_answer e)
