-- `cue_part` meets its contract. Assumes nothing.
use native.Mathlib.Omega.{arith}
use borrow.Author.Tests.{not-true, not-false}
use Rattle.scan.specs.Part.{string_at}
use Rattle.queries.proofs.Regions.{cue_none, cue_some}
use Rattle.queries.proofs.region.cue_part.Goals as goal

pub returns-then-not-has : goal.returns-then-not-has
returns-then-not-has c =
    cue_none c.args.t.now.regions.now c.args.t.now.extras.now c.args.t.now.strings.now c.args.n c.args.has c.args.id (not-true _
    c.if-not-has.true-raw) _ c.blank_part.ensures

pub overflow_add-to : goal.overflow_add-to
overflow_add-to c =
    omega (arith, c.requires.1.within, c.requires.1.few)

pub slice_bounds-region_part-end : goal.slice_bounds-region_part-end
slice_bounds-region_part-end c =
    omega (arith, c.requires.1.within)

pub returns : goal.returns
unfolding string_at
returns c =
    cue_some c.args.t.now.regions.now c.args.t.now.extras.now c.args.t.now.strings.now c.args.n c.args.has c.args.id (not-false _
    c.if-not-has.false-raw) _ c.region_part.ensures
