use Prim.Native.Nat.{◌+◌, ◌-◌}
use mathlib.Core.Path.{◌≡◌, refl}
use mathlib.Core.Bool.{true, false}
use native.Mathlib.Omega.{arith}
use Rattle.inline.specs.Trims.{trimmed}
use Rattle.inline.proofs.TrimLaws.{ready_row, trim_start, trim_over, trim_on, trim_none}
use Rattle.inline.proofs.trims.trim_rows.Goals as goal

pub loop-i-init : goal.loop-i-init
loop-i-init c =
    trim_start _ _ _ _ c.requires.0 c.requires.1

pub trim_row-requires : goal.trim_row-requires
trim_row-requires c =
    let next : c.loop-i.i - 1 + 1 ≡ c.loop-i.i = omega arith in
    ready_row _ _ c.args.first (c.loop-i.i - 1) (omega arith) (rw next c.loop-i.invariant.ready)

pub returns-then-trim_row : goal.returns-then-trim_row
returns-then-trim_row c =
    trim_over c.args.segments.now c.args.texts.now c.args.first c.args.end _ _ _ c.loop-i.invariant (omega arith) (trimmed c.trim_row.new.segments c.trim_row.new.texts true)
    (rw c.if-trim_row.true at c.trim_row.ensures) refl

pub loop-i-preserved : goal.loop-i-preserved
loop-i-preserved c =
    trim_on c.args.segments.now c.args.texts.now c.args.first c.args.end _ _ _ c.loop-i.invariant (omega arith) (trimmed c.trim_row.new.segments c.trim_row.new.texts false)
    (rw c.if-trim_row.false at c.trim_row.ensures) refl

pub shape_of-segments : goal.shape_of-segments
shape_of-segments c =
    c.loop-i.invariant.many_cells

pub shape_of-texts : goal.shape_of-texts
shape_of-texts c =
    c.loop-i.invariant.many_bytes

pub returns : goal.returns
returns c =
    trim_none _ _ _ _ _ _ _ c.loop-i.invariant (omega arith)
