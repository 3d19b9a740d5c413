-- `decode_entities` meets its contract. The loop's invariant: what was read up to `from` stands from `at` up to `to`. The measure is what is left of
-- the text.
use Prim.Native.Nat.{◌-◌}
use lib.ListN.{length}
use Rattle.entities.proofs.Decoding.{Decoding}
use Rattle.entities.proofs.decode.decode_entities.Given as goal

abbrev pub invariant-loop-from : goal.invariant-loop-from
invariant-loop-from l = Decoding l.src l.at l.initial.out l.from l.to l.out

abbrev pub decreases-loop-from : goal.decreases-loop-from
decreases-loop-from l = length l.src - l.from
