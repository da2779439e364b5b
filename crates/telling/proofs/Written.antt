-- A formatter that writes parts one after another.
use Rattle.std.proofs.Common.{ℕ, ◌+◌, List, sym}
use Rattle.std.proofs.Output.{has_written_append, has_written_of_eq, writes_in_calls_nil}
use Rattle.std.specs.Fmt.{HasWritten, IsPlainFormatter}
use Rattle.std.specs.declared.fmt.Formatter.{Formatter}
use Rattle.tablefile.proofs.Laid.{laid_more, laid_none}
use Rattle.tablefile.specs.Parts.{laid}

module _ {W : Type 0} (took : W → List ℕ → W → Type 0) where
  -- before the first
  pub written_none : (f : Formatter W) (part : ℕ → List ℕ) → IsPlainFormatter f → HasWritten took f (laid 0 part) f
  written_none f part plain =
      has_written_of_eq took f _ _ f (sym (laid_none part)) (record { wrote = writes_in_calls_nil took _; plain = plain })

  -- after one more
  pub written_more : (f g h : Formatter W) (part : ℕ → List ℕ) (k : ℕ) → HasWritten took f (laid k part) g → HasWritten took g (part k) h → HasWritten took f (laid (k + 1) part) h
  written_more f g h part k before now =
      has_written_of_eq took f _ _ h (sym (laid_more k part)) (has_written_append took f _ g _ h before now)
