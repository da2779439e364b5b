-- What an accepted call tells: every condition of its checks held.
use Rattle.std.proofs.Common.{◌≡◌, ℕ, ◌<◌, Bool, true, false, not, ltb, length, Some, None, Option, refl, arith}
use Rattle.ordering.specs.Judging.{unbound}
use Rattle.sheet.specs.Editing.{amend_refusal, entry_refusal, rank_free, withdraw_refusal}
use Rattle.sheet.specs.Passing.{asked, judge_refusal, unbound_refusal}
use Rattle.sheet.specs.State.{State, require}
use Rattle.sheet.specs.declared.entry.Entry.{Entry}
use Rattle.std.proofs.lemmas.Bool.{and_parts, both_ways, ltb-true}
use Rattle.table.specs.Limits.{suits}
use Rattle.table.specs.Rows.{capacity, is_task, on_core}
use Rattle.table.specs.Tests.{Meaning}
use Rattle.table.specs.declared.row.Figures.{Figures}

never : {R X : Type 0} (why : R) → ◌≡◌ {A = Option R} (Some why) None → X
never why e = let z : ◌≡◌ {A = ℕ} 0 1 = cc in absurd (omega arith)

-- a condition that did not refuse held, and nor did the later ones refuse
required : {R : Type 0} (holds : Bool) (why : R) (later : Option R) → require holds why later ≡ None → (holds ≡ true) × (later ≡ None)
required true why later e = (refl, e)
required false why later e = never why e

not_true : (b : Bool) → not b ≡ true → b ≡ false
not_true true e = absurd (both_ways false refl e)
not_true false e = refl

-- a number below the capacity has a row, and is below 64
pub record HasRow (s : State) (n : ℕ) : Type 0 where
  pub inside : n < length s.rows
  pub near : n < 64

has_row : (s : State) (n : ℕ) → ltb n (capacity s.rows) ≡ true → HasRow s n
has_row s n e = let below : n < capacity s.rows = ltb-true n (capacity s.rows) e in record { inside = omega arith; near = omega arith }

pub record EntryTells (s : State) (e : Entry) : Type 0 where
  pub place : HasRow s e.number
  pub vacant : is_task s.rows e.number ≡ false
  pub core : e.core < s.board.cores
  pub rank : rank_free s.rows e.core e.rank ≡ true
  pub figures : suits s.board e.figures ≡ true

pub entry_tells : (s : State) (e : Entry) (fine : Bool) → entry_refusal s e fine ≡ None → EntryTells s e
entry_tells s e fine accepted =
    let a = required _ _ _ accepted in
    let b = required _ _ _ a.1 in
    let c = required _ _ _ b.1 in
    let d = required _ _ _ c.1 in
    let f = required _ _ _ d.1 in
    record {
      place = has_row s e.number a.0;
      vacant = not_true _ b.0;
      core = ltb-true _ _ c.0;
      rank = d.0;
      figures = (and_parts (suits s.board e.figures) fine f.0).0;
    }

-- of a withdrawal and of an amendment
pub record NumberTells (s : State) (n : ℕ) : Type 0 where
  pub place : HasRow s n
  pub task : is_task s.rows n ≡ true

pub withdraw_tells : (s : State) (n : ℕ) → withdraw_refusal s n ≡ None → NumberTells s n
withdraw_tells s n accepted =
    let a = required _ _ _ accepted in
    record { place = has_row s n a.0; task = (required _ _ _ a.1).0 }

pub amend_tells : (s : State) (n : ℕ) (f : Figures) → amend_refusal s n f ≡ None → NumberTells s n × (suits s.board f ≡ true)
amend_tells s n f accepted =
    let a = required _ _ _ accepted in
    let b = required _ _ _ a.1 in
    (record { place = has_row s n a.0; task = b.0 }, (required _ _ _ b.1).0)

none_unbound : (o : Option ℕ) → unbound_refusal o ≡ None → o ≡ None
none_unbound None e = refl
none_unbound (Some i) e = never _ e

pub judge_tells : (m : Meaning) (s : State) (core : ℕ) → judge_refusal m s core ≡ None → (core < s.board.cores) × (unbound (asked m s) s.rows (on_core s.rows core) ≡ None)
judge_tells m s core accepted = let a = required _ _ _ accepted in (ltb-true _ _ a.0, none_unbound _ a.1)
