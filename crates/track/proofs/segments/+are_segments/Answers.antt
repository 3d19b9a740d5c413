-- `are_segments` meets its contract. The measure is the room that is left. The loop's invariant: the test of all rows is that of the rows from `i`
-- on; its measure is how many these are.
use Prim.Native.Nat.{◌+◌, ◌-◌}
use mathlib.Core.Path.{◌≡◌, refl, sym, ◌∙◌}
use mathlib.Core.Bool.{true}
use native.Mathlib.Omega.{arith}
use Rattle.track.specs.Tables.{cell}
use Rattle.track.specs.Meaning.{are_segments}
use Rattle.track.proofs.SegmentLaws.{are_none, are_shallow, are_unfit, are_empty, are_long, are_torn, are_on}
use Rattle.track.proofs.segments.+are_segments.Goals as goal
use Rattle.track.proofs.segments.+are_segments.Goals.{else-rows-gt1-via-then-rows-gt1+else-not-are_segments, else-rows-gt1-via-else-rows-gt1}

pub returns-then-room-eq0 : goal.returns-then-room-eq0
returns-then-room-eq0 t c = sym (are_shallow _ _ _ _ _ _ c.if-room-eq0.true)

pub loop-i-init : goal.loop-i-init
loop-i-init t c =
    let e : c.args.from + c.args.n - c.args.from ≡ c.args.n = omega arith in
    (omega arith, omega arith, rw e)

pub returns-then-not-is_segment : goal.returns-then-not-is_segment
returns-then-not-is_segment t c =
    let n = c.args.from + c.args.n - c.loop-i.i in
    sym (c.loop-i.invariant.2 ∙ are_unfit _ _ _ c.args.room n c.loop-i.i _ (omega arith) (omega arith) refl (sym c.is_segment.ensures ∙ c.if-not-is_segment.true))

pub returns-then-rows-eq0 : goal.returns-then-rows-eq0
unfolding cell
returns-then-rows-eq0 t c =
    let n = c.args.from + c.args.n - c.loop-i.i in
    let s = sym c.is_segment.ensures ∙ c.if-not-is_segment.false in
    sym (c.loop-i.invariant.2 ∙ are_empty _ _ _ c.args.room n c.loop-i.i c.get-rows.result (omega arith) (omega arith) c.get-rows.ensures s c.if-rows-eq0.true)

pub returns-then-end-i : goal.returns-then-end-i
unfolding cell
returns-then-end-i t c =
    let n = c.args.from + c.args.n - c.loop-i.i in
    let s = sym c.is_segment.ensures ∙ c.if-not-is_segment.false in
    sym (c.loop-i.invariant.2 ∙ are_long _ _ _ c.args.room n c.loop-i.i c.get-rows.result (omega arith) (omega arith) c.get-rows.ensures s (omega arith) c.if-end-i.true)

pub returns-then-not-are_segments : goal.returns-then-not-are_segments
unfolding cell
returns-then-not-are_segments t c =
    let n = c.args.from + c.args.n - c.loop-i.i in
    let s = sym c.is_segment.ensures ∙ c.if-not-is_segment.false in
    let w = sym c.are_segments.ensures ∙ c.if-not-are_segments.true in
    sym (c.loop-i.invariant.2 ∙ are_torn _ _ _ c.args.room n c.loop-i.i c.get-rows.result (omega arith) (omega arith) c.get-rows.ensures s (omega arith) (omega arith) w)

pub loop-i-preserved : goal.loop-i-preserved
unfolding cell
loop-i-preserved t c =
    let n = c.args.from + c.args.n - c.loop-i.i in
    let s = sym c.is_segment.ensures ∙ c.if-not-is_segment.false in
    let e : c.args.from + c.args.n - (c.loop-i.i + c.get-rows.result) ≡ n - c.get-rows.result = omega arith in
    let inside : are_segments c.args.t.now.segments.now c.args.t.now.strings.now c.args.t.now.texts.now (c.args.room - 1) (c.get-rows.result - 1) (c.loop-i.i + 1) ≡ true =
    elim c.else-rows-gt1.branch [
      | else-rows-gt1-via-then-rows-gt1+else-not-are_segments w ↦ sym w.are_segments.ensures ∙ w.if-not-are_segments.false
      | else-rows-gt1-via-else-rows-gt1 w ↦ let k : c.get-rows.result - 1 ≡ 0 = omega (arith, w.if-rows-gt1.false) in
          rw k (are_none _ _ _ (c.args.room - 1) (c.loop-i.i + 1))
    ] in
    let k = are_on _ _ _ c.args.room n c.loop-i.i c.get-rows.result (omega arith) (omega arith) c.get-rows.ensures s (omega arith) (omega arith) inside in
    (omega arith, omega arith, rw e (c.loop-i.invariant.2 ∙ k))

pub returns : goal.returns
returns t c =
    let e : c.args.from + c.args.n - c.loop-i.i ≡ 0 = omega arith in
    sym (c.loop-i.invariant.2 ∙ rw e (are_none _ _ _ c.args.room c.loop-i.i))
