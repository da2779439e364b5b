-- The right sides that are computed from loads are the rules. Whatever is summed over gathered loads is summed over the
-- tasks that they stand for, so execution, what is suffered and what is inflicted agree; and a sum of one and the same
-- share over every core but one is a product.
use Rattle.std.proofs.Common.{◌≡◌, ℕ, zero, suc, ◌+◌, ◌-◌, ◌*◌, ◌<◌, ◌≤◌, min, Bool, true, false, cond, ◌&&◌, eqb, ltb, List, get_or, sum_by, sym, refl, ap, ◌∙◌, inl, inr, add-zero, suc-mul, arith}
use Rattle.bounds.specs.Adding.{sum_same}
use Rattle.bounds.specs.Demand.{above, core, cost, execution, period, releases, sensitivity, stress, total_sensitivity, total_stress}
use Rattle.bounds.specs.Gathering.{Gathers, rival_form}
use Rattle.bounds.specs.Loads.{weight_at}
use Rattle.bounds.specs.Questions.{Asks, inflicted, lesser_side, own_cost, own_shared, sensitivity_side}
use Rattle.bounds.specs.Rules.{composable_rule, contention, lesser_rule}
use Rattle.bounds.specs.Sums.{sum_to}
use Rattle.bounds.specs.declared.load.Load.{Load}
use Rattle.bounds.specs.declared.question.Own.{Own}
use Rattle.shortlist.specs.Items.{items}
use Rattle.std.proofs.lemmas.Bool.{cases_order, cond-false, cond-true, eq-eqb, eqb-true, lt-ltb, ne_eqb}
use Rattle.table.proofs.Places.{on_board_core}
use Rattle.table.specs.Rows.{is_task, on_board, on_core, row_at}
use Rattle.table.specs.Sets.{Set}
use Rattle.table.specs.declared.board.Board.{Board}
use Rattle.table.specs.declared.row.Figures.{Figures}
use Rattle.table.specs.declared.row.Row.{Row}

module _ (board : Board) (rows : List Row) (i : ℕ) (set : Set) (own : Own) (asks : Asks board rows i set own) where
  pub meets_execution : (t : ℕ) → own_cost own t ≡ execution rows i set t
  unfolding execution
  meets_execution t =
      ap (λ (f : Figures). f.cost + sum_by (λ x. releases (t + x.ahead.length) x.period * x.cost) (items own.higher)) asks.figures_is
      ∙ ap (λ n. cost rows i + n)
      (asks.gathers (λ q. releases (t + q.ahead) q.period * q.cost)
      ∙ ap (λ s. sum_to 64 (λ j. cond (above rows i set j) (releases s (period rows j) * cost rows j) 0)) (add-zero t))

  pub meets_sensitivity : (r t : ℕ) → own_shared own r t ≡ total_sensitivity rows i set r t
  unfolding total_sensitivity
  meets_sensitivity r t =
      ap (λ (f : Figures). get_or f.sensitivity r 0 + sum_by (weight_at r t) (items own.higher)) asks.figures_is
      ∙ ap (λ n. sensitivity rows r i + n)
      (asks.gathers (λ q. releases (t + q.ahead) q.period * get_or q.weight r 0)
      ∙ ap (λ s. sum_to 64 (λ j. cond (above rows i set j) (releases s (period rows j) * sensitivity rows r j) 0)) (add-zero t))

-- a task of core y is one of the board, if y is a core of it
of_board : (task : Bool) (c y m v : ℕ) → y < m → cond (task && ltb c m) (cond (eqb c y) v 0) 0 ≡ cond (task && eqb c y) v 0
of_board false c y m v l = refl
of_board true c y m v l = go (eqb c y) refl
  where
    same : (b : Bool) → ◌≡◌ {A = ℕ} (cond b 0 0) 0
    same true = refl
    same false = refl

    go : (b : Bool) → eqb c y ≡ b → cond (ltb c m) (cond (eqb c y) v 0) 0 ≡ cond (eqb c y) v 0
    go true e = cond-true (ltb c m) (cond (eqb c y) v 0) 0 (lt-ltb c m (omega (arith, eqb-true c y e)))
    go false e = ap (λ n. cond (ltb c m) n 0) (cond-false (eqb c y) v 0 e) ∙ same (ltb c m) ∙ sym (cond-false (eqb c y) v 0 e)

pub meets_stress : (board : Board) (rows : List Row) (ahead : ℕ → ℕ) (rivals : List Load) → Gathers (on_board board rows) (λ j. rival_form (ahead j) (row_at rows j)) 64 rivals → (r y t : ℕ) → y < board.cores → inflicted rivals r y t ≡ total_stress rows ahead r y t
unfolding total_stress on_board on_core
meets_stress board rows ahead rivals gathers r y t l =
    gathers (λ q. cond (eqb q.core y) (releases (t + q.ahead) q.period * get_or q.weight r 0) 0)
    ∙ sum_same 64 _ _ (λ j _. of_board (is_task rows j) (core rows j) y board.cores (releases (t + ahead j) (period rows j) * stress rows r j) l)

pub lesser_meets : (board : Board) (rows : List Row) (i : ℕ) (set : Set) (ahead : ℕ → ℕ) (own : Own) (rivals : List Load) → Asks board rows i set own → Gathers (on_board board rows) (λ j. rival_form (ahead j) (row_at rows j)) 64 rivals → (t : ℕ) → lesser_side board own rivals t ≡ lesser_rule ahead board rows i set t
unfolding contention
lesser_meets board rows i set ahead own rivals asks gathers t =
    ap (λ n. n + contention board own.task.core (λ r y. min (inflicted rivals r y t) (own_shared own r t))) (meets_execution board rows i set own asks t)
    ∙ ap (λ c. execution rows i set t + contention board c (λ r y. min (inflicted rivals r y t) (own_shared own r t))) asks.core_is
    ∙ ap (λ n. execution rows i set t + n)
    (sum_same board.cores _ _ (λ y l. ap (λ n. cond (eqb y (core rows i)) 0 n) (sum_same board.resources _ _ (λ r _.
    ap (λ a. min a (own_shared own r t)) (meets_stress board rows ahead rivals gathers r y t l)
    ∙ ap (λ b. min (total_stress rows ahead r y t) b) (meets_sensitivity board rows i set own asks r t)))))

-- one and the same share for every core below n but x

less : (n c : ℕ) → (suc n - 1) * c ≡ n * c
less n c = ap (λ k. k * c) (omega arith)

more : (n c : ℕ) → 1 ≤ n → n * c ≡ (n - 1) * c + c
more zero c h = absurd (omega arith)
more (suc n) c h = omega (arith, suc-mul n c, less n c)

all_others : (n x c : ℕ) → n ≤ x → sum_to n (λ y. cond (eqb y x) 0 c) ≡ n * c
unfolding sum_to
all_others zero x c h = omega arith
all_others (suc n) x c h = omega (arith, all_others n x c (omega arith), cond-false (eqb n x) 0 c (ne_eqb n x (λ e. omega arith)), suc-mul n c)

all_but_one : (n x c : ℕ) → x < n → sum_to n (λ y. cond (eqb y x) 0 c) ≡ (n - 1) * c
unfolding sum_to
all_but_one zero x c h = absurd (omega arith)
all_but_one (suc n) x c h =
    elim (cases_order n x) [
      | inl same ↦ omega (arith, all_others n x c (omega arith), cond-true (eqb n x) 0 c (eq-eqb n x same), less n c)
      | inr rest ↦ elim rest [
        | inl below ↦ absurd (omega arith)
        | inr above ↦ omega (arith, all_but_one n x c above, cond-false (eqb n x) 0 c (ne_eqb n x (λ e. omega arith)), less n c, more n c (omega arith))
      ]
    ]

pub sensitivity_meets : (board : Board) (rows : List Row) (i : ℕ) (set : Set) (own : Own) → Asks board rows i set own → (t : ℕ) → sensitivity_side board own t ≡ composable_rule board rows i set t
unfolding contention
sensitivity_meets board rows i set own asks t =
    let all : ℕ = sum_to board.resources (λ r. total_sensitivity rows i set r t) in
    ap (λ n. n + (board.cores - 1) * sum_to board.resources (λ r. own_shared own r t)) (meets_execution board rows i set own asks t)
    ∙ ap (λ n. execution rows i set t + (board.cores - 1) * n) (sum_same board.resources _ _ (λ r _. meets_sensitivity board rows i set own asks r t))
    ∙ ap (λ n. execution rows i set t + n) (sym (all_but_one board.cores (core rows i) all (on_board_core board rows i asks.found)))
