use native.Mathlib.Omega.{arith}
use native.Mathlib.Nat.{add_assoc, add-zero}
use lib.Ieee.{nan}
use Rattle.track.specs.Tables.{zero_float, cell, style_at}
use Rattle.records.proofs.Parts.{within-any}
use Rattle.records.proofs.styles.style_at.Goals as goal

-- src/styles.rt:73:1
pub returns : goal.returns
unfolding cell style_at
returns c =
    let v = within-any nan zero_float c.args.sizes.now c.args.i (omega arith) in
    rw (c.span_at.ensures, c.span_at-2.ensures, c.look_at.ensures, v, c.rows_at.ensures)
    (simp (add_assoc, add-zero))
