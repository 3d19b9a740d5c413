-- `segment_at` meets its contract: one law for each kind. A colour's cells are bytes, so that they can be read as such.
use mathlib.Core.Path.{sym, ap, ◌∙◌}
use native.Mathlib.Omega.{arith}
use lib.IntN.{ℤ}
use mir.Syntax.{w64}
use mir.Val.{to_z, of_z}
use mir.Facts.{to_z-of_z}
use Rattle.track.specs.declared.segments.Segment.{Segment}
use Rattle.track.specs.Tables.{cell}
use Rattle.track.proofs.SegmentLaws.{at_text, at_break, at_timestamp, at_bold, at_italic, at_underline, at_strike, at_color, at_rest}
use Rattle.track.proofs.SegmentLaws.{color-bytes}
use Rattle.track.proofs.Packed.{time-signed}
use Rattle.track.proofs.segments.segment_at.Goals as goal

pub overflow_cast-result : goal.overflow_cast-result
unfolding cell
overflow_cast-result c =
    omega (arith, color-bytes c.args.segments.now c.args.i (c.requires.1 c.in-8.is))

pub overflow_cast-result-in-8 : goal.overflow_cast-result-in-8
unfolding cell
overflow_cast-result-in-8 c =
    omega (arith, color-bytes c.args.segments.now c.args.i (c.requires.1 c.in-8.is))

pub overflow_cast-result-in-8-2 : goal.overflow_cast-result-in-8-2
unfolding cell
overflow_cast-result-in-8-2 c =
    omega (arith, color-bytes c.args.segments.now c.args.i (c.requires.1 c.in-8.is))

pub returns-in-1 : goal.returns-in-1
unfolding cell
returns-in-1 c =
    rw (c.get.ensures, c.get-in-1.ensures) (sym (at_text _ _ c.in-1.is))

pub returns-in-2 : goal.returns-in-2
returns-in-2 c =
    sym (at_break _ _ c.in-2.is)

pub returns-in-3 : goal.returns-in-3
unfolding cell
returns-in-3 c =
    ap (λ (z : ℤ). Segment.Timestamp (to_z w64 (of_z w64 z))) c.time_from.ensures
    ∙ ap Segment.Timestamp (to_z-of_z (time-signed _)) ∙ sym (at_timestamp _ _ c.in-3.is)

pub returns-in-4 : goal.returns-in-4
returns-in-4 c =
    sym (at_bold _ _ c.in-4.is)

pub returns-in-5 : goal.returns-in-5
returns-in-5 c =
    sym (at_italic _ _ c.in-5.is)

pub returns-in-6 : goal.returns-in-6
returns-in-6 c =
    sym (at_underline _ _ c.in-6.is)

pub returns-in-7 : goal.returns-in-7
returns-in-7 c =
    sym (at_strike _ _ c.in-7.is)

pub returns-in-8 : goal.returns-in-8
unfolding cell
returns-in-8 c =
    sym (at_color _ _ c.in-8.is)

pub returns-in_default : goal.returns-in_default
returns-in_default c =
    let n = c.in_default.in_default-own.rest in
    rw c.font_at.ensures
    (sym (at_rest _ _ n.0.0.0.0.0.0.0.1 n.0.0.0.0.0.0.1 n.0.0.0.0.0.1 n.0.0.0.0.1 n.0.0.0.1
    n.0.0.1 n.0.1 n.1))
