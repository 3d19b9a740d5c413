-- `are_cues` meets its contract. The loop's invariant: all are cues as those from row i on are, their segments from row `from` on.
use Prim.Native.Nat.{◌-◌, ◌≤◌}
use mathlib.Core.Path.{◌≡◌}
use Rattle.track.specs.Meaning.{are_cues}
use Rattle.track.proofs.cues.are_cues.Given as goal

abbrev pub invariant-loop-i : goal.invariant-loop-i
invariant-loop-i l = (l.from ≤ l.most)
    × (are_cues l.t.cues.now l.t.extras.now l.t.segments.now l.t.strings.now l.t.texts.now l.most 0 l.n 0 ≡ are_cues l.t.cues.now l.t.extras.now l.t.segments.now l.t.strings.now l.t.texts.now l.most l.from (l.n - l.i) l.i)
