-- `size_at` meets its contract. Assumes nothing.
use borrow.Author.Tests.{eq-eqb, ne_eqb}
use lib.Ieee.{of_bits}
use Rattle.track.specs.Tables.{size_at}
use Rattle.track.proofs.parts.size_at.Goals as goal

pub returns-then-sign-eq0 : goal.returns-then-sign-eq0
unfolding size_at of_bits
returns-then-sign-eq0 c =
    rw (eq-eqb c.args.sign 0 c.if-sign-eq0.true)

pub returns : goal.returns
unfolding size_at
returns c =
    rw (ne_eqb c.args.sign 0 c.if-sign-eq0.false)
