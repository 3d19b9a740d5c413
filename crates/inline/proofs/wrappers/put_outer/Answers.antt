-- `put_outer` meets its contract: three rows, each if it is there. Assumes nothing.
use native.Mathlib.Omega.{arith}
use Rattle.inline.specs.Wraps.{outer_of}
use Rattle.inline.proofs.Wrapping.{same_font, same_color, same_strike, wrap-three}
use Rattle.inline.proofs.wrappers.put_outer.Goals as goal

pub returns : goal.returns
unfolding outer_of
returns c =
    let w = c.args.w in
    record {
      value = omega (arith, c.put_if-a.ensures.value, c.put_if-b.ensures.value, c.put_if.ensures.value);
      around = wrap-three w.has_font w.has_color w.strike (same_font w.font) (same_color w.color) same_strike _ _ _ _ _ _ _ _
          c.put_if-a.ensures.rows c.put_if-a.ensures.value c.put_if-b.ensures.rows c.put_if-b.ensures.value c.put_if.ensures.rows;
    }
