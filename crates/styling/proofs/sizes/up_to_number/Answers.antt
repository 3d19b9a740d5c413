-- `up_to_number` reads the beginning that `number_end` ends.
use mathlib.Core.Path.{ap, ◌∙◌}
use Prim.Native.Nat.{ℕ}
use mathlib.Core.List.{List}
use Rattle.meaning.specs.Styling.{size_decimal, size_answer}
use Rattle.styling.proofs.sizes.up_to_number.Goals as goal

pub returns : goal.returns
returns c =
    c.size_in.ensures ∙ ap (λ (x : List ℕ). size_answer c.args.at (size_decimal x)) c.number_end.ensures.1
