-- `value` is the string that the attribute's place and length say.
use mathlib.Core.Path.{refl}
use Rattle.scan.specs.Part.{string_at}
use Rattle.styling.proofs.rows.value.Goals as goal

pub returns : goal.returns
unfolding string_at
returns c =
    refl
