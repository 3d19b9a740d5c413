use native.Mathlib.Omega.{arith}
use Rattle.std.proofs.lemmas.Grind.{common_steps}
use Rattle.utf8.specs.Utf8.{boundary}
use Rattle.utf8.proofs.utf8.is_boundary.Goals as goal

pub returns-then-at-text : goal.returns-then-at-text
unfolding boundary
returns-then-at-text c =
    grind (arith, common_steps)

pub returns-else-at-text : goal.returns-else-at-text
unfolding boundary
returns-else-at-text c =
    grind (arith, common_steps)
