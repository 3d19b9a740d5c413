-- `put_inner` meets its contract: three rows, each if it is there. Assumes nothing.
use native.Mathlib.Omega.{arith}
use Rattle.inline.specs.Wraps.{inner_of}
use Rattle.inline.proofs.Wrapping.{same_underline, same_italic, same_bold, wrap-three}
use Rattle.inline.proofs.wrappers.put_inner.Goals as goal

pub returns : goal.returns
unfolding inner_of
returns c =
    let w = c.args.w in
    record {
      value = omega (arith, c.put_if-a.ensures.value, c.put_if-b.ensures.value, c.put_if.ensures.value);
      around = wrap-three w.underline w.italic w.bold same_underline same_italic same_bold _ _ _ _ _ _ _ _
          c.put_if-a.ensures.rows c.put_if-a.ensures.value c.put_if-b.ensures.rows c.put_if-b.ensures.value c.put_if.ensures.rows;
    }
