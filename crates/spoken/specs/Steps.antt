-- What a test answers. This file need not be believed.
use Rattle.std.specs.Prelude.{Bool, true, false}

abbrev pub Decides : Type 0 → Bool → Type 0
Decides P true = P
Decides P false = ¬ P
