-- `put_wrappers` meets its contract: one shift, a row for the timestamp and a row for each wrapper. Assumes nothing.
use Prim.Native.Nat.{ℕ, ◌+◌, ◌-◌, ◌≤◌}
use mathlib.Core.Path.{◌≡◌, refl}
use native.Mathlib.Omega.{arith}
use lib.ListN.{length}
use mir.Facts.{to_z-of_z}
use mir.Syntax.{w64}
use mir.Val.{to_z, of_z}
use Rattle.track.specs.Layout.{flag}
use Rattle.inline.specs.Wraps.{Rows, stamp_rows, wrappers_from}
use Rattle.inline.proofs.Wrapping.{byte_flag, many_all, rows-stamped, stands_wrapped}
use Rattle.inline.proofs.wrappers.put_wrappers.Goals as goal

pub returns-then-end-k-gt-SEGMENTS : goal.returns-then-end-k-gt-SEGMENTS
returns-then-end-k-gt-SEGMENTS c =
    let ws = wrappers_from c.args.w in (
      refl,
      λ pre rest f h.
          omega (
            arith,
            c.if-end-k-gt-SEGMENTS.true,
            c.many.ensures.0,
            c.from.ensures,
            byte_flag c.args.stamp,
            many_all c.args.w,
            h.count,
            rows-stamped c.args.stamp c.args.time ws f,
          ),
    )

pub returns : goal.returns
returns c =
    let ws = wrappers_from c.args.w in
    let k : ℕ = c.from.result + c.many.result in
    let many : k ≡ flag c.args.stamp + length ws =
    rw (many_all c.args.w) (omega (arith, c.many.ensures.0, c.from.ensures, byte_flag c.args.stamp)) in
    let few : c.args.end + k ≤ 16384 = omega (arith, c.if-end-k-gt-SEGMENTS.false) in
    let rows : c.args.end + k - c.args.end ≡ flag c.args.stamp + length ws = omega arith in
    let stamped : Rows c.args.first (stamp_rows c.args.stamp (to_z w64 (of_z w64 c.args.time))) c.shift_segments.new.segments c.put_if-at.new.segments =
    c.put_if-at.ensures.rows in (
      omega arith,
      few,
      λ pre rest f h. rw rows (stands_wrapped pre rest c.args.first c.args.end f c.args.segments.now h c.args.stamp c.args.time ws k _ _ _ _ many
          (omega (arith, few, c.requires.2)) c.shift_segments.ensures (rw (to_z-of_z c.ranges.time) at stamped) c.put_if-at.ensures.value
          (λ n e. c.put_around.ensures n e)),
    )
