-- `of_leading` reads the beginning that `leading_end` ends.
use mathlib.Core.Path.{ap, ◌∙◌}
use Prim.Native.Nat.{ℕ}
use mathlib.Core.List.{List}
use Rattle.meaning.specs.Styling.{size_decimal, size_answer}
use Rattle.styling.proofs.sizes.of_leading.Goals as goal

pub returns : goal.returns
returns c =
    c.size_in.ensures ∙ ap (λ (x : List ℕ). size_answer c.args.at (size_decimal x)) c.leading_end.ensures.1
