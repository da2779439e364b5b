-- What a call answers that tells nothing but its refusal, and the refusal itself.
use Rattle.std.proofs.Common.{◌≡◌, Some, None, Ok, Err, Option, refl}
use Rattle.table.specs.Refusals.{done_unless}

pub none_refused : {R : Type 0} (o : Option R) → Ok tt ≡ done_unless o → o ≡ None
none_refused None e = refl
none_refused (Some why) e = cc

pub some_refused : {R : Type 0} (o : Option R) (why : R) → Err why ≡ done_unless o → o ≡ Some why
some_refused None why e = cc
some_refused (Some other) why e = cc
