use Rattle.std.proofs.Common.{◌-◌, ◌≡◌, ◌≤◌}
use Rattle.track.specs.Meaning.{are_segments}
use Rattle.track.proofs.segments.+are_segments.Given as goal

-- proposed from what the function passes where it calls itself
abbrev pub decreases-are_segments : goal.decreases-are_segments
decreases-are_segments l = l.room

abbrev pub invariant-loop-i : goal.invariant-loop-i
invariant-loop-i l =
    (l.from ≤ l.i) × (l.i ≤ l.end) × (are_segments l.t.segments.now l.t.strings.now l.t.texts.now l.room l.n l.from ≡ are_segments l.t.segments.now l.t.strings.now l.t.texts.now l.room (l.end - l.i) l.i)

-- proposed from the loop's first test
abbrev pub decreases-loop-i : goal.decreases-loop-i
decreases-loop-i l = l.end - l.i
