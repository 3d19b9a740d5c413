-- `size_bits` meets its contract.
use borrow.Author.Tests.{not-true, not-false}
use Rattle.track.specs.Layout.{size_bits}
use Rattle.track.proofs.marks.size_bits.Goals as goal

pub returns-then-not-has : goal.returns-then-not-has
unfolding size_bits
returns-then-not-has c =
    rw (not-true c.args.has c.if-not-has.true-raw)

pub returns : goal.returns
unfolding size_bits
returns c =
    rw (not-false c.args.has c.if-not-has.false-raw) c.spelled_bits.ensures
