use Rattle.std.proofs.Common.{◌≡◌, sym, ap, ◌∙◌, arith}
use Rattle.std.proofs.lemmas.List.{drop_at, take_at}
use Rattle.std.proofs.lemmas.Bool.{eq-eqb}
use Rattle.examples.proofs.files.mend.Goals as goal
use Rattle.tablefile.specs.Check.{check_of}
use Rattle.tablefile.specs.Spelling.{spells}

pub returns-clause-front : goal.returns-clause-front
returns-clause-front c =
    take_at c.split_at_mut-front.result.0.now c.copy_from_slice.new.self 510 c.split_at_mut-front.ensures.front_len
    ∙ c.split_at_mut-front.ensures.front

pub returns-clause-stands : goal.returns-clause-stands
returns-clause-stands c =
    let front = c.split_at_mut-front.result.0.now in
    let check = c.copy_from_slice.new.self in
    let long = c.split_at_mut-front.ensures.front_len in
    let told : spells check ≡ c.sum_of.result = ap spells (c.copy_from_slice.ensures.after ∙ c.to_be_bytes.ensures) ∙ omega (arith, c.sum_of.type_inv) in
    eq-eqb _ _ (ap spells (drop_at front check 510 long) ∙ told ∙ c.sum_of.ensures ∙ ap check_of (sym (take_at front check 510 long)))
