use Rattle.std.proofs.Common.{rules, ◌≤◌, sym, ◌∙◌, subst, ⊎_elim, arith}
use Rattle.bounds.proofs.Answered.{slot_deadline, slot_deadline_small}
use Rattle.bounds.proofs.prepared.asking.deadlines.Goals as goal
use Rattle.bounds.specs.Questions.{deadline_in}
use Rattle.std.proofs.lemmas.Bool.{cases_lt}
use Rattle.std.proofs.lemmas.List.{get_or_past}
use Rattle.table.proofs.FromFn.{made_at}
use Rattle.table.proofs.Places.{task_below}
use Rattle.table.specs.Tasks.{listed, slot}

pub invariant_of-result : goal.invariant_of-result
invariant_of-result c = record {
  short = λ k. ⊎_elim
      (λ below. subst (λ n. n ≤ 10000000) (sym (made_at _ (λ k. deadline_in (slot c.args.tasks.now k)) _ 0 (λ i y q call. search rules) c.from_fn.result 64 c.from_fn.ensures.items k below)) (slot_deadline_small (slot c.args.tasks.now k)))
      (λ past. omega (arith, get_or_past c.from_fn.result k 0 (omega (arith, c.from_fn.ensures.items.long))))
      (cases_lt k 64);
}

pub returns : goal.returns
returns c k task = let tasks = c.args.tasks.now in made_at _ (λ k. deadline_in (slot c.args.tasks.now k)) _ 0 (λ i y q call. search rules) c.from_fn.result 64 c.from_fn.ensures.items k (task_below (listed tasks) k task) ∙ slot_deadline tasks k task
