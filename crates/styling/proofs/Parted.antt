-- An option taken apart into a flag and a value beside it. Assumes nothing.
use Rattle.std.specs.Prelude as rust
use Rattle.std.specs.Prelude.{Some, None}
use mathlib.Core.Path.{◌≡◌, refl}
use Rattle.styling.specs.Posts.{given, option}

pub parted : {A : Type 0} (x : rust.Option A) (other : A) → given (rust.is_some x) (rust.unwrap_or x other) ≡ option x
parted (Some y) other = refl
parted None other = refl
