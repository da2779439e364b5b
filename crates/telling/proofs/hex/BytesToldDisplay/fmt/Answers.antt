use Rattle.std.proofs.Common.{ℕ, List, ◌++◌, codes, sym, ap, ◌∙◌, append_assoc, append-nil, rules}
use Rattle.std.proofs.Output.{has_written_append, has_written_of_eq}
use Rattle.std.proofs.lemmas.List.{nil_from_length}
use Rattle.telling.proofs.Hexed.{bytes_first, bytes_none}
use Rattle.telling.proofs.hex.BytesToldDisplay.fmt.Goals as goal
use Rattle.telling.specs.Hex.{bytes_text, line_text}

pub loop-line-preserved : goal.loop-line-preserved
loop-line-preserved g c =
    let steps = c.in-Some.ensures.steps in
    let size = c.loop-line.invariant.2 in (
      search rules,
      tt,
      steps.0 ∙ size,
      λ plain.
          let so_far = c.loop-line.invariant.3 plain in (
            so_far.0 ++ (line_text c.in-Some.line.now ++ codes "\n"),
            has_written_append _ _ _ _ _ _ so_far.1 (search rules),
            append_assoc so_far.0 _ _
                ∙ ap (λ (text : List ℕ). so_far.0 ++ text) (sym (bytes_first _ _ _ steps.1.0 (rw size at steps.1.1) steps.1.2))
                ∙ so_far.2,
          ),
    )

pub returns-clause-writes : goal.returns-clause-writes
returns-clause-writes g c = λ plain _.
    let so_far = c.loop-line.invariant.3 plain in
    let none = nil_from_length _ c.in-None.ensures.steps.1.0 in
    has_written_of_eq _ _ _ _ _
    (sym (append-nil so_far.0) ∙ ap (λ (text : List ℕ). so_far.0 ++ text) (sym (ap bytes_text none ∙ bytes_none)) ∙ so_far.2)
    so_far.1
