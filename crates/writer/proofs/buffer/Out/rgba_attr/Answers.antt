-- `rgba_attr` meets its contract.
use mathlib.Core.Path.{refl}
use Rattle.writer.proofs.Chaining.{writes_none, writes_on, writes_out, writes_stop, writes_then}
use borrow.Author.Tests.{not-true, not-false}
use Rattle.writer.proofs.buffer.Out.rgba_attr.Goals as goal

pub returns-then-not-has : goal.returns-then-not-has
returns-then-not-has c =
    rw (not-true c.args.has c.if-not-has.true-raw) (writes_none _)

pub returns-in_err-put : goal.returns-in_err-put
returns-in_err-put c =
    rw c.from_residual.ensures (rw (not-false c.args.has c.if-not-has.false-raw) (writes_stop _ c.in_err-put.ensures))

pub returns-in_err-self : goal.returns-in_err-self
returns-in_err-self c =
    rw c.from_residual-in_err-self.ensures (rw (not-false c.args.has c.if-not-has.false-raw)
    (writes_then c.in_ok-put.ensures (writes_stop _ (writes_out refl c.in_err-self.ensures))))

pub returns : goal.returns
returns c =
    rw (not-false c.args.has c.if-not-has.false-raw) (writes_then c.in_ok-put.ensures (writes_then (writes_on refl c.in_ok-self.ensures) c.put-2.ensures))
