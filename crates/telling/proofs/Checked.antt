-- What an answer without a refusal says.
use Rattle.std.proofs.Common.{◌≡◌, Some, None, Ok, Option, refl}
use Rattle.table.specs.Refusals.{done_unless}
use Rattle.table.specs.declared.refusal.Refusal.{Refusal}

pub none_refused : (o : Option Refusal) (done : Unit {0}) → Ok done ≡ done_unless o → o ≡ None
none_refused None done e = refl
none_refused (Some why) done e = cc
