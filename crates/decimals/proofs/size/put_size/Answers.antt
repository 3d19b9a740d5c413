-- `put_size` meets its contract: its pieces are the spelling's, each written where the one before ends.
use Rattle.decimals.specs.Size.{spelling}
use Rattle.std.proofs.Common.{length, ap, ◌∙◌, arith, length-set}
use native.Mathlib.Nat.{one-le-pow}
use lib.Seq.{length-sets}
use Rattle.scan.specs.Posts.{Appended}
use Rattle.decimals.proofs.Sizes.{before, Begun, begun_minus, begun_plain, room-minus, room-lead, long_two, put_whole, room-point, put_parts}
use Rattle.decimals.proofs.size.put_size.Goals as goal
use Rattle.decimals.proofs.size.put_size.Goals.{Joined-s, then-s, else-s}

begun : (c : Joined-s) → Begun c.args.s.negative c.args.at c.args.out.now
    c.if-s.start c.if-s.out
begun c =
    elim c.if-s.branch [
      | then-s w ↦ begun_minus c.args.s.negative w.if-s.true w.start-is w.out-is
      | else-s w ↦ begun_plain c.args.s.negative w.if-s.false w.start-is w.out-is
    ]

pub bounds-out-at : goal.bounds-out-at
bounds-out-at c =
    omega (
      arith,
      room-minus c.args.s.negative c.args.s.digits c.args.s.scale
          c.if-s.true,
    )

pub nonzero_div-whole : goal.nonzero_div-whole
nonzero_div-whole c =
    rw c.pow-p.ensures (one-le-pow c.args.s.scale 10 (omega arith))

pub put_digits-end-requires : goal.put_digits-end-requires
put_digits-end-requires c =
    let e = rw c.pow-p.ensures at c.decimal_width.ensures in (
      omega (
        arith,
        e,
        room-lead c.args.s.negative c.args.s.digits c.args.s.scale c.args.at c.args.out.now
            c.if-s.start c.if-s.out (begun ((goal.at.put_digits-end-requires c).Joined-s)) c.requires.0,
      ),
      omega arith,
      omega arith,
    )

pub shape_of-out-then-s-eq0 : goal.shape_of-out-then-s-eq0
shape_of-out-then-s-eq0 c =
    let wrote : Appended (before c.args.s.digits c.args.s.scale) c.if-s.start c.if-s.out c.put_digits-end.new.out c.put_digits-end.result =
    rw (c.decimal_width.ensures, c.pow-p.ensures) at c.put_digits-end.ensures in
    long_two c.args.s.negative c.args.s.digits c.args.s.scale c.args.at c.args.out.now c.if-s.start
    c.if-s.out (begun ((goal.at.shape_of-out-then-s-eq0 c).Joined-s)) c.requires.0 c.put_digits-end.new.out c.put_digits-end.result wrote

pub returns-then-s-eq0 : goal.returns-then-s-eq0
returns-then-s-eq0 c =
    let wrote : Appended (before c.args.s.digits c.args.s.scale) c.if-s.start c.if-s.out c.put_digits-end.new.out c.put_digits-end.result =
    rw (c.decimal_width.ensures, c.pow-p.ensures) at c.put_digits-end.ensures in
    put_whole c.args.s.negative c.args.s.digits c.args.s.scale c.args.at c.args.out.now c.if-s.start
    c.if-s.out (begun ((goal.at.returns-then-s-eq0 c).Joined-s)) c.requires.0 c.put_digits-end.new.out c.put_digits-end.result wrote c.if-s-eq0.true

pub bounds-out-end : goal.bounds-out-end
bounds-out-end c =
    let wrote : Appended (before c.args.s.digits c.args.s.scale) c.if-s.start c.if-s.out c.put_digits-end.new.out c.put_digits-end.result =
    rw (c.decimal_width.ensures, c.pow-p.ensures) at c.put_digits-end.ensures in
    omega (
      arith,
      room-point c.args.s.negative c.args.s.digits c.args.s.scale c.args.at c.args.out.now
          c.if-s.start c.if-s.out (begun ((goal.at.bounds-out-end c).Joined-s)) c.requires.0 c.put_digits-end.new.out c.put_digits-end.result wrote
          c.if-s-eq0.false,
      long_two c.args.s.negative c.args.s.digits c.args.s.scale c.args.at c.args.out.now
          c.if-s.start c.if-s.out (begun ((goal.at.bounds-out-end c).Joined-s)) c.requires.0 c.put_digits-end.new.out c.put_digits-end.result wrote,
    )

pub nonzero_rem-s : goal.nonzero_rem-s
nonzero_rem-s c =
    rw c.pow-p.ensures (one-le-pow c.args.s.scale 10 (omega arith))

pub returns : goal.returns
returns c =
    let wrote : Appended (before c.args.s.digits c.args.s.scale) c.if-s.start c.if-s.out c.put_digits-end.new.out c.put_digits-end.result =
    rw (c.decimal_width.ensures, c.pow-p.ensures) at c.put_digits-end.ensures in
    put_parts c.args.s.negative c.args.s.digits c.args.s.scale c.args.at c.args.out.now c.if-s.start
    c.if-s.out (begun ((goal.at.returns c).Joined-s)) c.requires.0 c.put_digits-end.new.out c.put_digits-end.result wrote c.if-s-eq0.false _ _
    (rw c.pow-p.ensures at c.put_digits.ensures)

pub overflow_add-end : goal.overflow_add-end
overflow_add-end c =
    let wrote : Appended (before c.args.s.digits c.args.s.scale) c.if-s.start c.if-s.out c.put_digits-end.new.out c.put_digits-end.result =
    rw (c.decimal_width.ensures, c.pow-p.ensures) at c.put_digits-end.ensures in
    omega (
      arith,
      room-point c.args.s.negative c.args.s.digits c.args.s.scale c.args.at c.args.out.now
          c.if-s.start c.if-s.out (begun ((goal.at.overflow_add-end c).Joined-s)) c.requires.0 c.put_digits-end.new.out c.put_digits-end.result wrote
          c.if-s-eq0.false,
      c.well_formed,
    )

pub put_digits-requires : goal.put_digits-requires
put_digits-requires c =
    let wrote : Appended (before c.args.s.digits c.args.s.scale) c.if-s.start c.if-s.out c.put_digits-end.new.out c.put_digits-end.result =
    rw (c.decimal_width.ensures, c.pow-p.ensures) at c.put_digits-end.ensures in (
      rw (length-set c.put_digits-end.new.out c.put_digits-end.result 46) (omega (
        arith,
        room-point c.args.s.negative
            c.args.s.digits c.args.s.scale c.args.at c.args.out.now c.if-s.start c.if-s.out (begun ((goal.at.put_digits-requires c).Joined-s))
            c.requires.0
            c.put_digits-end.new.out c.put_digits-end.result wrote c.if-s-eq0.false,
        long_two c.args.s.negative c.args.s.digits
            c.args.s.scale c.args.at c.args.out.now c.if-s.start c.if-s.out (begun ((goal.at.put_digits-requires c).Joined-s)) c.requires.0
            c.put_digits-end.new.out c.put_digits-end.result wrote,
      )),
      omega arith,
      omega arith,
    )

pub shape_of-out : goal.shape_of-out
shape_of-out c =
    let wrote : Appended (before c.args.s.digits c.args.s.scale) c.if-s.start c.if-s.out c.put_digits-end.new.out c.put_digits-end.result =
    rw (c.decimal_width.ensures, c.pow-p.ensures) at c.put_digits-end.ensures in
    let p : Appended (spelling c.args.s.negative c.args.s.digits c.args.s.scale) c.args.at c.args.out.now c.put_digits.new.out c.put_digits.result =
    put_parts c.args.s.negative c.args.s.digits c.args.s.scale c.args.at c.args.out.now c.if-s.start
    c.if-s.out (begun ((goal.at.returns c).Joined-s)) c.requires.0 c.put_digits-end.new.out c.put_digits-end.result wrote c.if-s-eq0.false _ _
    (rw c.pow-p.ensures at c.put_digits.ensures) in
    ap length p.laid ∙ simp length-sets
