-- `font_at` meets its contract: the family by its flag.
use Prim.Native.Nat.{◌+◌, ◌*◌}
use mathlib.Core.Path.{◌≡◌, ◌∙◌, sym, refl}
use native.Mathlib.Omega.{arith}
use borrow.Author.Tests.{ne_eqb}
use Rattle.track.specs.Tables.{cell, optional, family_mark, font_at}
use Rattle.track.proofs.segments.font_at.Goals as goal
use Rattle.track.proofs.segments.font_at.Goals.{then-has, else-has}

pub returns : goal.returns
unfolding cell optional font_at
returns c =
    let m = cell 6 c.args.segments.now c.args.i 4 in
    let e : c.args.i * 6 + 2 + 1 ≡ c.args.i * 6 + 3 = omega arith in
    let f : c.if-has.family ≡ optional (family_mark m) (cell 6 c.args.segments.now c.args.i 2) (cell 6 c.args.segments.now c.args.i 3) = elim c.if-has.branch [
      | then-has w ↦ w.family-is ∙ w.span_at-family.ensures ∙ sym (rw (w.if-has.true, e) refl)
      | else-has w ↦ w.family-is ∙ sym (rw (ne_eqb (family_mark m) 1 w.if-has.false) refl)
    ] in
    rw (f, c.marked_size.ensures)
