use native.Mathlib.Omega.{arith}
use Rattle.meaning.specs.Timing.{end_of}
use Rattle.intervals.proofs.Sums.{summed}
use mir.Facts.{to_z-of_z}
use borrow.Author.Rules.{sfits_of}
use Rattle.intervals.proofs.end_of.Goals as goal

pub returns-in-Some : goal.returns-in-Some
unfolding end_of
returns-in-Some c =
    rw c.in-Some.is
    (summed _ c.args.place c.args.reference c.in-Some.end c.ranges.reference (sfits_of (omega arith))
    c.add_times.ensures)

pub returns-in-Some-dur : goal.returns-in-Some-dur
unfolding end_of
returns-in-Some-dur c =
    rw (c.in_default.is, c.in-Some-dur.is)
    (summed _ c.args.place c.args.start c.in-Some-dur.dur c.ranges.start (sfits_of (omega arith))
    c.add_times-in-Some-dur.ensures)

pub returns-in-None : goal.returns-in-None
unfolding end_of
returns-in-None c =
    rw (c.in_default.is, c.in-None.is, to_z-of_z c.ranges.start)
