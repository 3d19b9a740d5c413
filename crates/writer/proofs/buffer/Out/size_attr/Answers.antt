-- `size_attr` meets its contract.
use Rattle.writer.proofs.Chaining.{writes_none, writes_stop, writes_then}
use borrow.Author.Tests.{not-true, not-false}
use Rattle.writer.proofs.buffer.Out.size_attr.Goals as goal

pub returns-then-not-has : goal.returns-then-not-has
returns-then-not-has c =
    rw (not-true c.args.has c.if-not-has.true-raw) (writes_none _)

pub put_size-requires : goal.put_size-requires
put_size-requires c =
    c.requires (not-false _ c.if-not-has.false-raw)

pub returns-in_err-put : goal.returns-in_err-put
returns-in_err-put c =
    rw c.from_residual.ensures (rw (not-false c.args.has c.if-not-has.false-raw) (writes_stop _ c.in_err-put.ensures))

pub returns-in_err-put_size : goal.returns-in_err-put_size
returns-in_err-put_size c =
    rw c.from_residual-in_err-put_size.ensures (rw (not-false c.args.has c.if-not-has.false-raw)
    (writes_then c.in_ok-put.ensures (writes_stop _ c.in_err-put_size.ensures)))

pub returns : goal.returns
returns c =
    rw (not-false c.args.has c.if-not-has.false-raw) (writes_then c.in_ok-put.ensures (writes_then c.in_ok-put_size.ensures c.put-2.ensures))
