-- A sum, if it is an i64.
use mathlib.Core.Path.{ap, ◌∙◌}
use lib.IntN.{◌+ℤ◌}
use mir.Syntax.{w64}
use mir.ValLaws.{to_z-of_z}
use Rattle.times.specs.Sums.{checked}
use Rattle.times.proofs.Answers.{adds}
use Rattle.times.proofs.Summing.{checked_by}
use Rattle.times.proofs.sums.add.Goals as goal

pub returns : goal.returns
returns c =
    adds _ _ _ (checked_by _ _ c.checked_add.ensures ∙ ap checked (λ i. to_z-of_z w64 _ c.ranges.a i +ℤ to_z-of_z w64 _ c.ranges.b i))
