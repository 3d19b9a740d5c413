-- `is_segment` meets its contract: one law for each kind.
use mathlib.Core.Path.{sym, ◌∙◌}
use native.Mathlib.Omega.{arith}
use borrow.Author.Tests.{ne_eqb}
use Rattle.track.specs.Tables.{cell}
use Rattle.track.proofs.SegmentLaws.{is-long, is-alone, is_leaf, is_plain, is-color, is-font, is-unknown}
use Rattle.track.proofs.segments.is_segment.Goals as goal

pub returns-then-t-at-eq1 : goal.returns-then-t-at-eq1
unfolding cell
returns-then-t-at-eq1 c =
    rw (is-alone c.args.t.now.segments.now c.args.t.now.strings.now c.args.t.now.texts.now c.args.i c.in-1.is c.if-t-at-eq1.true)
    (rw (← c.get-place.ensures, ← c.get-len.ensures) c.is_span.ensures)

pub returns-else-t-at-eq1 : goal.returns-else-t-at-eq1
unfolding cell
returns-else-t-at-eq1 c =
    ne_eqb _ 1 c.if-t-at-eq1.false ∙ sym (is-long _ _ _ _ c.in-1.is c.if-t-at-eq1.false)

pub returns-in-8 : goal.returns-in-8
returns-in-8 c =
    c.are_three.ensures ∙ sym (is-color _ _ _ _ c.in-8.is)

pub returns-in-9 : goal.returns-in-9
returns-in-9 c =
    c.is_font.ensures ∙ sym (is-font _ _ _ _ c.in-9.is)

pub returns-in-2 : goal.returns-in-2
unfolding cell
returns-in-2 c =
    sym (is_leaf c.args.t.now.segments.now c.args.t.now.strings.now c.args.t.now.texts.now c.args.i (omega arith) (omega arith))

pub returns-in-4-to-7 : goal.returns-in-4-to-7
returns-in-4-to-7 c =
    sym (is_plain c.args.t.now.segments.now c.args.t.now.strings.now c.args.t.now.texts.now c.args.i (omega arith) (omega arith))

pub returns-in_default : goal.returns-in_default
returns-in_default c =
    sym (is-unknown c.args.t.now.segments.now c.args.t.now.strings.now c.args.t.now.texts.now c.args.i (λ l m. omega arith))

pub returns-in_default-2 : goal.returns-in_default-2
returns-in_default-2 c =
    sym (is-unknown c.args.t.now.segments.now c.args.t.now.strings.now c.args.t.now.texts.now c.args.i (λ l m. omega arith))
