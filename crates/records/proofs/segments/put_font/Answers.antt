-- `put_font` meets its contract: the family's cells, and after them marks and bits. Assumes nothing.
use Prim.Native.Nat.{◌+◌}
use mathlib.Core.Path.{◌≡◌, ap, ◌∙◌}
use mathlib.Core.Bool.{cond}
use mathlib.Core.List.{[], ◌∷◌}
use native.Mathlib.Omega.{arith}
use lib.ListN.{length-set}
use lib.Seq.{sets}
use Rattle.track.specs.Layout.{flag, span_cells, size_marks, font_cells}
use Rattle.track.proofs.Packed.{flagged-below}
use Rattle.records.proofs.Storing.{first, then_two, family_wide}
use Rattle.records.proofs.segments.put_font.Goals as goal
use Rattle.records.proofs.segments.put_font.Goals.{then-x, else-x}

pub overflow_add-segments : goal.overflow_add-segments
overflow_add-segments c =
    let x = c.args.x in
    omega (arith, c.flag_cell.ensures, c.size_marks.ensures, flagged-below x.has_family x.has_size x.size)

pub bounds-segments-at-2 : goal.bounds-segments-at-2
bounds-segments-at-2 c =
    simp length-set (omega arith)

pub returns : goal.returns
unfolding font_cells
returns c =
    let own = cond c.args.x.has_family (span_cells c.args.x.family) (0 ∷ 0 ∷ []) in
    let family : span_cells c.if-x.family ≡ own =
    elim c.if-x.branch [ then-x w ↦ rw (w.if-x.true, w.family-is) | else-x w ↦ rw (w.if-x.false, w.family-is) ] in
    let w = first c.args.segments.now c.args.at own (c.put_span.ensures ∙ ap (sets c.args.segments.now c.args.at) family)
    (family_wide c.args.x.has_family c.args.x.family) in
    let marks : c.flag_cell.result + c.size_marks.result ≡ flag c.args.x.has_family + size_marks c.args.x.has_size c.args.x.size =
    rw (c.flag_cell.ensures, c.size_marks.ensures) in
    (then_two w marks c.size_bits.ensures).is
