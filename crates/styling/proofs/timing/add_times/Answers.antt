-- `add_times` answers what `sum` does.
use Rattle.std.specs.Prelude as rust
use Rattle.std.specs.Prelude.{Some, None}
use Rattle.std.specs.Option.{ok_or}
use Prim.Native.Nat.{ℕ}
use mathlib.Core.Path.{◌≡◌, refl}
use lib.IntN.{ℤ}
use mir.Facts.{to_z-of_z}
use Rattle.meaning.specs.Timing.{sum, sum_answer}
use Rattle.styling.specs.Posts.{moment_said}
use Rattle.styling.proofs.timing.add_times.Goals as goal

said_or : (x : rust.Option ℤ) (place : ℕ) → moment_said (ok_or x (record { number = 16; place = place })) ≡ sum_answer place x
said_or (Some z) place = refl
said_or None place = refl

pub returns : goal.returns
unfolding sum
returns c =
    let e = rw (to_z-of_z c.ranges.a, to_z-of_z c.ranges.b) at c.add.ensures.is in
    rw (c.ok_or.ensures.value, ← e) (said_or c.add.result c.args.element)
