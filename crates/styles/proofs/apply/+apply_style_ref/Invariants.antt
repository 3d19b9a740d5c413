use Rattle.std.proofs.Common.{◌-◌, ◌*◌, length}
use Rattle.track.specs.Tables.{span}
use Rattle.styles.specs.Places.{row}
use Rattle.scan.specs.Part.{part}
use Rattle.styles.proofs.Along.{Along}
use Rattle.styles.proofs.apply.+apply_style_ref.Given as goal

abbrev pub decreases-apply_style_ref : goal.decreases-apply_style_ref
decreases-apply_style_ref l = length l.ids.now - l.w.count * 4

abbrev pub invariant-loop-x : goal.invariant-loop-x
invariant-loop-x l =
    Along l.text l.named.styles.now l.named.sizes.now l.named.strings.now l.named.many (part l.from l.to l.named.strings.now)
    l.initial.ids l.initial.s (row 1 (span l.from (l.to - l.from))) l.p l.ids l.heads l.s

abbrev pub decreases-loop-x : goal.decreases-loop-x
decreases-loop-x l = length (part l.from l.to l.named.strings.now) - l.p
