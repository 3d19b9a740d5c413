use Rattle.numerals.proofs.Writing.{putting_step, putting_done}
use Rattle.numerals.proofs.write.put_digits.Goals as goal

pub loop-i-preserved : goal.loop-i-preserved
loop-i-preserved c =
    rw c.digit_char.ensures (putting_step _ _ _ _ _ _ _ _ c.loop-i.invariant c.loop-i-test.true)

pub returns : goal.returns
returns c =
    putting_done _ _ _ _ _ _ _ _ c.loop-i.invariant c.loop-i-test.false
