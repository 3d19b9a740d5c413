-- Digits and the mark after them: the mark is laid where the digits end.
use native.Mathlib.Omega.{arith}
use Rattle.numerals.proofs.Writing.{padded-length}
use Rattle.times.proofs.Clocks.{field-laid}
use Rattle.times.proofs.write.put_field.Goals as goal

pub bounds-out-end : goal.bounds-out-end
bounds-out-end c =
    omega (
      arith,
      c.put_digits-end.auto.out,
      c.put_digits-end.ensures.next,
      padded-length 10 c.args.width
          c.args.n,
    )

pub returns : goal.returns
returns c =
    field-laid c.args.width c.args.n c.args.mark c.args.out.now c.put_digits-end.new.out c.args.at _
    c.put_digits-end.ensures
    (omega (arith, c.put_digits-end.ensures.next, padded-length 10 c.args.width c.args.n)) c.put_digits-end.auto.out
