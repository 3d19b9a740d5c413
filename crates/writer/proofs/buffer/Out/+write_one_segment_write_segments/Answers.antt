use Prim.Native.Nat.{◌+◌, ◌-◌, ◌*◌, ◌≤◌, ◌<◌}
use native.Mathlib.Omega.{arith}
use mir.Syntax.{w64}
use mir.ValLaws.{to_z-of_z}
use borrow.Author.Rules.{rules}
use Rattle.track.specs.Tables.{cell}
use Rattle.track.proofs.Chains.{fails, holds}
use Rattle.track.proofs.SegmentLaws.{readable}
use Rattle.writer.proofs.Chaining.{writes_stop, writes_then}
use Rattle.writer.proofs.Spanning.{spanning-start, spanning-done, spanning-stamp, spanning-one, stamp_stop, one_stop, first}
use Rattle.writer.proofs.Spanning.{ready_one, ready_walk, ready_cells, ready_within, ready_inside, one_leaf, one_wrapper, opening_stop}
use Rattle.writer.proofs.buffer.Out.+write_one_segment_write_segments.Goals as goal
use Rattle.writer.proofs.buffer.Out.+write_one_segment_write_segments.Goals.{
  write_segments-then-segments-i-eq-TIMESTAMP+in_ok-open_stamp,
  write_segments-else-segments-i-eq-TIMESTAMP+in_ok-write_one_segment,
}

pub write_one_segment-segment_at-s-requires : goal.write_one_segment-segment_at-s-requires
unfolding cell
write_one_segment-segment_at-s-requires t c =
    let p = c.requires in
    let w = ready_walk _ _ _ _ _ p in
    (ready_cells _ _ _ _ _ p, readable _ _ _ _ w.is)

pub write_one_segment-open_segment-requires : goal.write_one_segment-open_segment-requires
write_one_segment-open_segment-requires t c =
    ready_within _ _ _ _ _ c.requires _ c.segment_at-s.ensures

pub write_one_segment-returns-then-not-is_wrapper : goal.write_one_segment-returns-then-not-is_wrapper
write_one_segment-returns-then-not-is_wrapper t c =
    let h = fails c.is_wrapper.ensures c.if-not-is_wrapper.true-raw in
    rw (one_leaf _ _ _ _ _ c.requires _ c.segment_at-s.ensures h) c.in_ok-open_segment.ensures

pub write_one_segment-overflow_mul-i : goal.write_one_segment-overflow_mul-i
write_one_segment-overflow_mul-i t c =
    let h = ready_cells _ _ _ _ _ c.requires in
    search (rules, h)

pub write_one_segment-overflow_add-i : goal.write_one_segment-overflow_add-i
write_one_segment-overflow_add-i t c =
    let h = ready_cells _ _ _ _ _ c.requires in
    search (rules, h)

pub write_one_segment-get-rows-requires : goal.write_one_segment-get-rows-requires
write_one_segment-get-rows-requires t c =
    omega (arith, ready_cells _ _ _ _ _ c.requires)

pub write_one_segment-overflow_add-i-2 : goal.write_one_segment-overflow_add-i-2
write_one_segment-overflow_add-i-2 t c =
    let h = ready_cells _ _ _ _ _ c.requires in
    search (rules, h)

pub write_one_segment-overflow_sub-rows : goal.write_one_segment-overflow_sub-rows
unfolding cell
write_one_segment-overflow_sub-rows t c =
    omega (arith, c.requires.1, c.get-rows.ensures)

pub write_one_segment-overflow_sub-room : goal.write_one_segment-overflow_sub-room
write_one_segment-overflow_sub-room t c =
    omega (arith, (ready_walk _ _ _ _ _ c.requires).deep)

pub write_one_segment-write_segments-requires : goal.write_one_segment-write_segments-requires
unfolding cell
write_one_segment-write_segments-requires t c =
    let p = c.requires in
    let falls : 2 * (c.args.room - 1) + 1 < t = omega (arith, c.requires, (ready_walk _ _ _ _ _ p).deep) in
    (falls, ready_inside _ _ _ _ _ p _ c.get-rows.ensures)

pub write_one_segment-returns-in_err-open_segment : goal.write_one_segment-returns-in_err-open_segment
write_one_segment-returns-in_err-open_segment t c =
    rw c.from_residual.ensures (opening_stop _ _ _ _ _ c.requires _ c.segment_at-s.ensures _ _ c.in_err-open_segment.ensures)

pub write_one_segment-returns-in_err-write_segments : goal.write_one_segment-returns-in_err-write_segments
unfolding cell
write_one_segment-returns-in_err-write_segments t c =
    let h = holds c.is_wrapper.ensures c.if-not-is_wrapper.false-raw in
    rw (c.from_residual-in_err-write_segments.ensures, one_wrapper _ _ _ _ _ c.requires _ c.segment_at-s.ensures h _ c.get-rows.ensures)
    (writes_then c.in_ok-open_segment.ensures (writes_stop _ c.in_err-write_segments.ensures))

pub write_one_segment-returns : goal.write_one_segment-returns
unfolding cell
write_one_segment-returns t c =
    let h = holds c.is_wrapper.ensures c.if-not-is_wrapper.false-raw in
    rw (one_wrapper _ _ _ _ _ c.requires _ c.segment_at-s.ensures h _ c.get-rows.ensures)
    (writes_then c.in_ok-open_segment.ensures (writes_then c.in_ok-write_segments.ensures c.put.ensures))

pub write_segments-loop-i-init : goal.write_segments-loop-i-init
write_segments-loop-i-init t c =
    spanning-start _ _ _ _ _ _ _ c.requires

pub write_segments-returns-in_err-open_stamp : goal.write_segments-returns-in_err-open_stamp
unfolding cell
write_segments-returns-in_err-open_stamp t c =
    let h : c.loop-i.i < c.args.from + c.args.n = omega (arith, c.loop-i-test.true) in
    rw c.from_residual.ensures (stamp_stop _ _ _ _ _ _ _ _ _ _ c.loop-i.invariant h _ c.if-segments-i-eq-TIMESTAMP.true _ c.time_from-us.ensures
    (rw (to_z-of_z w64 c.time_from-us.result (record { sfits = c.time_from-us.type_inv })) at c.in_err-open_stamp.ensures))

pub write_segments-returns-in_err-write_one_segment : goal.write_segments-returns-in_err-write_one_segment
unfolding cell
write_segments-returns-in_err-write_one_segment t c =
    let h : c.loop-i.i < c.args.from + c.args.n = omega (arith, c.loop-i-test.true) in
    rw c.from_residual-in_err-write_one_segment.ensures
    (one_stop _ _ _ _ _ _ _ _ _ _ c.loop-i.invariant h _ c.if-segments-i-eq-TIMESTAMP.false c.in_err-write_one_segment.ensures)

pub write_segments-write_one_segment-requires : goal.write_segments-write_one_segment-requires
write_segments-write_one_segment-requires t c =
    let h : c.loop-i.i < c.args.from + c.args.n = omega (arith, c.loop-i-test.true) in
    (omega (arith, c.requires), ready_one _ _ _ _ _ _ _ _ _ _ c.loop-i.invariant h c.requires)

pub write_segments-overflow_add-i-in-loop-i : goal.write_segments-overflow_add-i-in-loop-i
unfolding cell
write_segments-overflow_add-i-in-loop-i t c =
    let h : c.loop-i.i < c.args.from + c.args.n = omega (arith, c.loop-i-test.true) in
    let w = first _ _ _ _ _ _ _ _ _ _ c.loop-i.invariant h in
    let k : c.loop-i.i + c.get-i.result ≤ c.args.from + c.args.n = omega (arith, w.most, c.get-i.ensures) in
    omega (arith, k, c.requires.cells, c.well_formed)

pub write_segments-loop-i-smaller : goal.write_segments-loop-i-smaller
unfolding cell
write_segments-loop-i-smaller t c =
    let h : c.loop-i.i < c.args.from + c.args.n = omega (arith, c.loop-i-test.true) in
    let w = first _ _ _ _ _ _ _ _ _ _ c.loop-i.invariant h in
    omega (arith, w.least, w.most, c.get-i.ensures)

pub write_segments-loop-i-preserved : goal.write_segments-loop-i-preserved
unfolding cell
write_segments-loop-i-preserved t c =
    let h : c.loop-i.i < c.args.from + c.args.n = omega (arith, c.loop-i-test.true) in
    elim c.if-segments-i-eq-TIMESTAMP.branch [
      | write_segments-then-segments-i-eq-TIMESTAMP+in_ok-open_stamp w ↦ rw (w.self-is, w.inside-is) (spanning-stamp _ _ _ _ _ _ _ _ _ _ c.loop-i.invariant h _ c.get-i.ensures _
          w.if-segments-i-eq-TIMESTAMP.true _ w.time_from-us.ensures (rw (to_z-of_z w64 w.time_from-us.result (record { sfits = w.time_from-us.type_inv })) at w.in_ok-open_stamp.ensures))
      | write_segments-else-segments-i-eq-TIMESTAMP+in_ok-write_one_segment w ↦ rw (w.self-is, w.inside-is) (spanning-one _ _ _ _ _ _ _ _ _ _ c.loop-i.invariant h _ c.get-i.ensures _
          w.if-segments-i-eq-TIMESTAMP.false w.in_ok-write_one_segment.ensures)
    ]

pub write_segments-returns : goal.write_segments-returns
write_segments-returns t c =
    spanning-done _ _ _ _ _ _ _ _ _ _ c.loop-i.invariant (omega arith) _ _ c.put_if.ensures
