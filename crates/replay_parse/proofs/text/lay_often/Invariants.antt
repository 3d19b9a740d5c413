-- `lay_often` stays within the text.
use Prim.Native.Nat.{◌≤◌}
use mathlib.Core.Path.{◌≡◌}
use lib.ListN.{length}
use Rattle.replay_parse.proofs.text.lay_often.Given as goal

abbrev pub invariant-loop : goal.invariant-loop
invariant-loop l = (l.next ≤ length l.initial.text) × (length l.text ≡ length l.initial.text)
