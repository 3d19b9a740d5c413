use native.Mathlib.Omega.{arith}
use mathlib.Core.Path.{◌∙◌}
use Rattle.meaning.specs.Kinds.{attrs_in}
use Rattle.meaning.specs.Timing.{lasting_to}
use Rattle.intervals.proofs.Sums.{summed, lasting}
use mir.Facts.{to_z-of_z}
use borrow.Author.Rules.{sfits_of}
use Rattle.intervals.proofs.lasting_to.Goals as goal

pub returns-in-Some : goal.returns-in-Some
unfolding lasting_to
returns-in-Some c =
    λ l o.
    let e = rw c.in-Some.is at (c.in_ok-lasts.ensures l o) in
    summed _ c.args.place c.args.start c.in-Some.lasts c.ranges.start (sfits_of (omega arith))
    c.add_times.ensures
    ∙ lasting c.args.ctx c.args.place c.args.start c.args.children (attrs_in c.args.attrs.now.strings.now l) _ e

pub returns-in-None : goal.returns-in-None
unfolding lasting_to
returns-in-None c =
    λ l o.
    let e = rw c.in-None.is at (c.in_ok-lasts.ensures l o) in
    rw (to_z-of_z c.ranges.children)
    (lasting c.args.ctx c.args.place c.args.start c.args.children (attrs_in c.args.attrs.now.strings.now l) _ e)
