-- `put_if` meets its contract: no row, or one. Assumes nothing.
use mathlib.Core.Path.{refl}
use native.Mathlib.Omega.{arith}
use Rattle.inline.proofs.Wrapping.{rows_none, rows-one}
use Rattle.inline.proofs.wrappers.put_if.Goals as goal

pub returns-then-not-has : goal.returns-then-not-has
returns-then-not-has c =
    rw (c.if-not-has.true) (record {
      value = omega arith;
      rows = rows_none _ _;
    })

pub put_segment-requires : goal.put_segment-requires
put_segment-requires c =
    let h = c.if-not-has.false in
    let a = rw h at c.requires.0 in
    (omega (arith, a), c.requires.1, c.requires.2)

pub returns : goal.returns
returns c =
    rw (c.if-not-has.false) (record {
      value = refl;
      rows = rows-one _ _ _ _ _ c.put_segment.ensures;
    })
