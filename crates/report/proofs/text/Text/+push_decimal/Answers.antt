use Rattle.report.proofs.text.Text.+push_decimal.Goals as goal
use Rattle.report.proofs.text.Text.+push_decimal.Goals.{else-n-ge10, then-n-ge10}
use Rattle.report.specs.Texts.{shown}
use Rattle.shortlist.specs.Items.{items}
use Rattle.std.proofs.Common.{◌≡◌, ℕ, ◌+◌, ◌/◌, ◌%◌, ◌^◌, ◌<◌, ◌≤◌, List, [], ◌∷◌, ◌++◌, length, decimal, sym, ap, ◌∙◌, arith}
use Rattle.std.proofs.lemmas.Fmt.{decimal_digit, decimal_step, length-decimal-le}
use Rattle.std.proofs.lemmas.List.{append_assoc, length-append}

-- what stands before the last digit, and that there is room for it
record Before (start front : List ℕ) (n : ℕ) : Type 0 where
  shows : front ++ (48 + n % 10) ∷ [] ≡ start ++ decimal n
  short : length front ≤ length start + 19

more : (start front : List ℕ) (n : ℕ) → 10 ≤ n → n < 2 ^ 64 → front ≡ start ++ decimal (n / 10) → Before start front n
more start front n low high e = record {
  shows = ap (λ t. t ++ (48 + n % 10) ∷ []) e ∙ append_assoc start (decimal (n / 10)) ((48 + n % 10) ∷ []) ∙ ap (λ ds. start ++ ds) (sym (decimal_step n (omega arith) (omega arith)));
  short = omega (arith, ap length e ∙ length-append start (decimal (n / 10)), length-decimal-le 19 (n / 10) (omega arith) (omega arith) (omega arith));
}

one : (start front : List ℕ) (n : ℕ) → n < 10 → front ≡ start → Before start front n
one start front n low e =
    let last : n % 10 ≡ n = omega arith in
    record {
      shows = ap (λ t. t ++ (48 + n % 10) ∷ []) e ∙ ap (λ d. start ++ (48 + d) ∷ []) last ∙ ap (λ ds. start ++ ds) (sym (decimal_digit n low));
      short = omega (arith, ap length e);
    }

pub invariant_of-self : goal.invariant_of-self
invariant_of-self t c =
    let before : Before (shown c.args.self.now) (items c.if-n-ge10.self.bytes) c.args.n =
    elim c.if-n-ge10.branch [
      | then-n-ge10 w ↦ more (shown c.args.self.now) (items c.if-n-ge10.self.bytes) c.args.n w.if-n-ge10.true c.ranges.n.fits (ap shown w.self-is ∙ w.push_decimal.ensures.shows)
      | else-n-ge10 w ↦ one (shown c.args.self.now) (items c.if-n-ge10.self.bytes) c.args.n (omega (arith, w.if-n-ge10.false)) (ap shown w.self-is)
    ] in
    let room : length (items c.if-n-ge10.self.bytes) < 8192 = omega (arith, c.requires, before.short) in
    omega (arith, c.requires, c.push.ensures.len room, before.short)

pub returns : goal.returns
returns t c =
    let before : Before (shown c.args.self.now) (items c.if-n-ge10.self.bytes) c.args.n =
    elim c.if-n-ge10.branch [
      | then-n-ge10 w ↦ more (shown c.args.self.now) (items c.if-n-ge10.self.bytes) c.args.n w.if-n-ge10.true c.ranges.n.fits (ap shown w.self-is ∙ w.push_decimal.ensures.shows)
      | else-n-ge10 w ↦ one (shown c.args.self.now) (items c.if-n-ge10.self.bytes) c.args.n (omega (arith, w.if-n-ge10.false)) (ap shown w.self-is)
    ] in
    let room : length (items c.if-n-ge10.self.bytes) < 8192 = omega (arith, c.requires, before.short) in
    record { shows = c.push.ensures.room room ∙ before.shows; near = omega (arith, c.push.ensures.len room, before.short) }
