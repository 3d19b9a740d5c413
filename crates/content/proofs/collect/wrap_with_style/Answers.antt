-- `wrap_with_style` meets its contract: the wrappers are refused, or put before the rows. Assumes nothing.
use native.Mathlib.Omega.{arith}
use mir.Facts.{to_z-of_z}
use Rattle.scan.proofs.Handed.{handed_on}
use Rattle.styling.specs.Posts.{wrappers_in}
use Rattle.content.proofs.Giving.{span-given}
use Rattle.content.proofs.collect.wrap_with_style.Goals as goal

pub put_span-a-requires : goal.put_span-a-requires
put_span-a-requires c =
    let w = c.in_ok-w.ensures.family_fits in
    (c.requires.0, c.requires.1, c.requires.2, rw c.around.ensures.0 (omega (arith, w, c.requires.3), omega (arith, w, c.requires.3)))

pub returns-in_err-w : goal.returns-in_err-w
returns-in_err-w c =
    rw (handed_on _ c.from_residual.ensures) (λ l o y.
    let e = c.in_err-w.ensures.of_rows l o in
    rw (← e))

pub returns : goal.returns
returns c =
    λ l o y.
    let e = c.in_ok-w.ensures.of_rows l o in
    let fits = c.in_ok-w.ensures.family_fits in
    rw (← e, c.added.ensures)
    (λ hi. span-given (wrappers_in c.args.attrs.now.strings.now c.in_ok-w.w) c.args.place c.args.first c.args.inner.rows hi c.args.inner.boundary c.args.stamp c.args.time
    c.args.segments.now c.put_span-a.new.segments y c.put_span-a.result
    (rw (to_z-of_z c.ranges.time, c.around.ensures.1 c.args.attrs.now.strings.now fits) at c.put_span-a.ensures))
