-- What is told of a refused load, judging or ordering: its number is that of a refusal.
use Rattle.sheet.specs.declared.refused.Layer.TheVariants.{Block, Row, Sheet}
use Rattle.sheet.specs.declared.refused.Layer.{Layer}
use Rattle.sheet.specs.declared.refused.NotOrdered.TheVariants as order
use Rattle.sheet.specs.declared.refused.NotOrdered.{NotOrdered}
use Rattle.sheet.specs.declared.refused.NotPassing.TheVariants as judge
use Rattle.sheet.specs.declared.refused.NotPassing.{NotPassing}
use Rattle.table.specs.Refusals.{number_of}
use Rattle.table.specs.declared.refusal.Refusal.TheVariants.{CoreLacking, NoBound, NoOrder}
use Rattle.table.specs.declared.refusal.Refusal.{Refusal}
use Rattle.std.specs.Prelude.{ℕ, cond, ◌&&◌, List, codes, ◌==◌, nat_le}

-- block for refusals 2 to 5, row for 6, sheet for the others
abbrev pub layer_of : Refusal → Layer
layer_of why = cond (nat_le 2 (number_of why) && nat_le (number_of why) 5) Block (cond (number_of why == 6) Row Sheet)

-- the word that tells a layer
abbrev pub layer_word : Layer → List ℕ
layer_word Block = codes "block"
layer_word Row = codes "row"
layer_word Sheet = codes "sheet"

-- the refusal of a judging
abbrev pub refusal_of_judge : NotPassing → Refusal
refusal_of_judge judge.CoreLacking = CoreLacking
refusal_of_judge (judge.NoBound number) = NoBound

-- the refusal of an ordering
abbrev pub refusal_of_order : NotOrdered → Refusal
refusal_of_order order.CoreLacking = CoreLacking
refusal_of_order (order.NoOrder none) = NoOrder
