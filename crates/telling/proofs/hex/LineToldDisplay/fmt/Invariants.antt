use Rattle.std.proofs.Common.{◌++◌, codes, take}
use Rattle.std.specs.Fmt.{HasWritten, IsPlainFormatter}
use Rattle.std.specs.List.{flat_map}
use Rattle.telling.proofs.hex.LineToldDisplay.fmt.Given as goal
use Rattle.telling.specs.Hex.{byte_text}

abbrev pub invariant-loop-byte : goal.invariant-loop-byte
invariant-loop-byte g l =
    IsPlainFormatter l.fn.f → HasWritten g.W.Write.write_str_gives l.fn.f (codes " " ++ flat_map byte_text (take l.byte-index l.self.0.now)) l.f
