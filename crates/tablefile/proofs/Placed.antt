-- What stands at a place of a block: a record, or zeros.
use Rattle.std.proofs.Common.{◌≡◌, ℕ, ◌<◌, ◌≤◌, cond, List, length, get_or, ap, ◌∙◌, arith}
use Rattle.std.proofs.lemmas.List.{get_or-map, length-map}
use Rattle.std.proofs.lemmas.Bool.{le-ltb, lt-ltb}
use Rattle.table.specs.declared.row.Row.{Row}
use Rattle.tablefile.specs.Layout.{no_record, place_bytes, record_bytes}
use Rattle.tablefile.specs.Numbers.{entry, records_for}
use Rattle.tablefile.specs.Parts.{zeros}
use Rattle.tablefile.specs.declared.records.Record.{Record}

place_in : (rs : List Record) (p : ℕ) → p < length rs → place_bytes rs p ≡ record_bytes (get_or rs p no_record)
unfolding place_bytes
place_in rs p h = ap (λ b. cond b (record_bytes (get_or rs p no_record)) (zeros 48)) (lt-ltb p (length rs) h)

pub place_out : (rs : List Record) (p : ℕ) → length rs ≤ p → place_bytes rs p ≡ zeros 48
unfolding place_bytes
place_out rs p h = ap (λ b. cond b (record_bytes (get_or rs p no_record)) (zeros 48)) (le-ltb p (length rs) h)

-- the place of a row
pub place_of : (rows : List Row) (ns : List ℕ) (p : ℕ) → p < length ns → place_bytes (records_for rows ns) p ≡ record_bytes (entry rows (get_or ns p 0))
place_of rows ns p h =
    let long : length (records_for rows ns) ≡ length ns = length-map ns (entry rows) in
    place_in (records_for rows ns) p (omega arith) ∙ ap record_bytes (get_or-map (entry rows) ns p 0 no_record h)
