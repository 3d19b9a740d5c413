-- `hash` meets its contract. The loop's invariant: the hash of the whole is that of the rest, begun with `h`. Assumes nothing.
use Prim.Native.Nat.{◌<◌}
use mathlib.Core.Path.{◌≡◌}
use lib.ListN.{drop}
use Rattle.styles.specs.Ids.{hash_from, hash_of}
use Rattle.styles.proofs.ids.hash.Given as goal

abbrev pub invariant-loop-b : goal.invariant-loop-b
invariant-loop-b l = (l.h < 4096) × (hash_of l.name ≡ hash_from l.h (drop l.b-index l.name))
